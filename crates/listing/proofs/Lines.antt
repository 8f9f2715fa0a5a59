-- Laws of columns, lines and texts: how long they are, and a list that grows by one line. Assumes nothing.
use Prim.Native.Nat.{ℕ, ◌+◌, ◌^◌, ◌<◌, ◌≤◌}
use native.Mathlib.Numerals.{add-one}
use native.Mathlib.Omega.{arith}
use mathlib.Core.Path.{◌≡◌, ap, ◌∙◌}
use mathlib.Core.List.{List, [], ◌∷◌, ◌++◌, append-nil}
use lib.ListN.{length, length-append}
use lib.Ieee.{Float, binary32, to_bits}
use Rattle.lists.specs.Tab.{tab}
use Rattle.lists.specs.Places.{flat_map}
use Rattle.lists.proofs.Members.{flat_map-append}
use Rattle.corner_list.specs.declared.Corner.{Corner}
use Rattle.listing.specs.Answer.{most_corners}
use Rattle.listing.specs.Text.{decimal, hexadecimal, units_of, fields, line, corners_word, heading}
use Rattle.listing.specs.Internal.{ended}
use Rattle.listing.proofs.Numbers.{decimal-long, hexadecimal-long}
use Rattle.listing.proofs.Nearest.{units-below}

-- ---- columns
pub ended-long : (column : List ℕ) (end : ℕ) → length (ended column end) ≡ length column + 1
ended-long column end = length-append column (end ∷ [])

pub decimal-ended : (n end : ℕ) → n < 2 ^ 64 → length (ended (decimal n) end) ≤ 21
decimal-ended n end h = omega (arith, ended-long (decimal n) end, decimal-long 19 n (omega arith))

pub bits-ended : (n end : ℕ) → length (ended (hexadecimal n) end) ≤ 9
bits-ended n end = omega (arith, ended-long (hexadecimal n) end, hexadecimal-long n)

units-long : (x : Float) → length (decimal (units_of x)) ≤ 20
units-long x = decimal-long 19 (units_of x) (omega (arith, units-below x))

-- ---- a line
pub line-long : (c : Corner) → c.neighbours < 2 ^ 32 → length (line (fields c)) ≤ 80
line-long c h =
    simp length-append
    (omega (
      arith,
      units-long c.x,
      units-long c.y,
      hexadecimal-long (to_bits binary32 c.x),
      hexadecimal-long (to_bits binary32 c.y),
      hexadecimal-long (to_bits binary32 c.strength),
      decimal-long 9 c.neighbours (omega arith),
    ))

-- ---- a heading, and one line more
pub heading-long : (n : ℕ) → n ≤ most_corners → length (heading corners_word n) ≤ 12
heading-long n h = omega (arith, ended-long (decimal n) 10, decimal-long 2 n (omega arith))

abbrev pub lines : List Corner → List ℕ
lines cs = flat_map (λ c. line (fields c)) cs

pub lines_more : (f : ℕ → Corner) (i : ℕ) → lines (tab (i + 1) f) ≡ lines (tab i f) ++ line (fields (f i))
unfolding tab
lines_more f i =
    rw (add-one i) (flat_map-append (λ c. line (fields c)) (tab i f) (f i ∷ [])
    ∙ ap (λ (l : List ℕ). lines (tab i f) ++ l) (append-nil (line (fields (f i)))))
