-- Small streams, what is printed of them and how many bytes they want, computed from the definitions. Assumes nothing.
use Prim.Native.Nat.{ℕ, ◌/◌, ◌%◌}
use mathlib.Core.Path.{◌≡◌, refl}
use mathlib.Core.List.{List, [], ◌∷◌, ◌++◌, map}
use Rattle.lists.specs.Places.{flat_map}
use Rattle.listing.specs.Text.{decimal, refused_text}
use Rattle.retention.specs.Retention.{stays, state_of}
use Rattle.retention.specs.Stream.{time_fault, record_fault, lines_from, output_of}
use Rattle.retention.specs.Wanted.{wanted_record, wanted_from, wanted}

-- eight bytes of a number, and a record
abbrev bytes4 : ℕ → List ℕ
bytes4 n = n % 256 ∷ n / 256 % 256 ∷ n / 65536 % 256 ∷ n / 16777216 % 256 ∷ []

abbrev bytes8 : ℕ → List ℕ
bytes8 n = bytes4 n ++ bytes4 (n / 4294967296)

abbrev item : ℕ → ℕ → List ℕ
item kind start = kind ∷ bytes8 start

-- letters, a line each
abbrev letters : List ℕ → List ℕ
letters ls = flat_map (λ l. l ∷ 10 ∷ []) ls

-- N, H and G
abbrev N : ℕ
N = 78

abbrev H : ℕ
H = 72

abbrev G : ℕ
G = 71

-- ---- what is printed

-- at second 7,776,000, which begins day 90: a file, photographs of days 0 and 1, tokens about a week old, items to come, then 2^40 and
-- above
abbrev day90 : List ℕ
day90 =
    bytes8 7776000
    ++ item 1 0 ++ item 2 0 ++ item 2 86400 ++ item 2 86399 ++ item 3 7171200 ++ item 3 7171201
    ++ item 1 7776001 ++ item 2 7776001 ++ item 3 7776000 ++ item 1 1099511627776 ++ item 3 1099511627777 ++ item 1 0

abbrev streams : List (List ℕ)
streams =
    day90
    -- no time, one cut short, times of 2^40 and above
    ∷ []
    ∷ (0 ∷ 0 ∷ 0 ∷ 0 ∷ 0 ∷ 0 ∷ 255 ∷ [])
    ∷ bytes8 1099511627776
    ∷ bytes8 1099511627777
    -- unknown kinds, cut short or not, of any second; a body cut short
    ∷ (bytes8 5 ++ (4 ∷ []))
    ∷ (bytes8 5 ++ item 1 0 ++ item 0 1099511627777)
    ∷ (bytes8 5 ++ item 1 0 ++ (2 ∷ 97 ∷ 98 ∷ 99 ∷ []))
    ∷ []

abbrev texts : List (List ℕ)
texts =
    (letters (H ∷ G ∷ H ∷ G ∷ G ∷ H ∷ N ∷ N ∷ H ∷ N ∷ []) ++ refused_text 20)
    ∷ refused_text 7
    ∷ refused_text 7
    ∷ []
    ∷ refused_text 20
    ∷ refused_text 6
    ∷ (letters (H ∷ []) ++ refused_text 6)
    ∷ (letters (H ∷ []) ++ refused_text 7)
    ∷ []

pub printed-so : map output_of streams ≡ texts
unfolding output_of time_fault record_fault lines_from state_of stays refused_text decimal
printed-so = refl

-- ---- the bytes that are wanted: none where a fault decides, else a kind, or the rest of a body
pub wanted-so : map wanted streams ≡ 0 ∷ 8 ∷ 1 ∷ 1 ∷ 0 ∷ 0 ∷ 0 ∷ 5 ∷ []
unfolding wanted_from wanted_record time_fault record_fault
wanted-so = refl
