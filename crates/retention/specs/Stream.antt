-- The stream of items (RULES 32.4) as a list of bytes, and what is printed for it.
use Rattle.std.specs.Prelude.{ℕ, zero, suc, ◌+◌, ◌*◌, cond, not, List, [], ◌∷◌, length, get_or, take, drop, ltb, leb}
use Rattle.lists.specs.Refusals.{lowest, unless}
use Rattle.listing.specs.Text.{newline, refused_text}
use Rattle.retention.specs.declared.Holding.{Holding}
use Rattle.retention.specs.Retention.{known, state_of, is_late, letter_of}

-- an unsigned number, little-endian (RULES 32.4)
abbrev pub little_endian : List ℕ → ℕ
little_endian [] = 0
little_endian (b ∷ bs) = b + 256 * little_endian bs

-- ---- the time

-- the time is the first eight bytes (RULES 32.4)
abbrev pub time_of : List ℕ → ℕ
time_of s = little_endian (take 8 s)

-- 7: it is cut short; 20: it is above 2^40 (RULES 32.5)
unfoldable pub time_fault : List ℕ → ℕ
time_fault s = lowest ((ltb (length s) 8, 7) ∷ (is_late (time_of s), 20) ∷ [])

-- ---- the record at a place: one byte for the kind, and eight for the start (RULES 32.4)
abbrev pub kind_at : List ℕ → ℕ → ℕ
kind_at s at = get_or s at 0

abbrev pub second_at : List ℕ → ℕ → ℕ
second_at s at = little_endian (take 8 (drop (at + 1) s))

-- no byte is left, 7; an unknown kind, 6; a body cut short, 7; a start above 2^40, 20 (RULES 32.5)
unfoldable pub record_fault : List ℕ → ℕ → ℕ
record_fault s at =
    lowest
    ((leb (length s) at, 7)
    ∷ (not (known (kind_at s at)), 6)
    ∷ (ltb (length s) (at + 9), 7)
    ∷ (is_late (second_at s at), 20)
    ∷ [])

-- the state of its item at the stream's time
abbrev pub state_at : List ℕ → ℕ → Holding
state_at s at = state_of (kind_at s at) (second_at s at) (time_of s)

-- ---- what is printed

-- record k, the first being record 0, comes after the time and k records of nine bytes
abbrev pub place_of : ℕ → ℕ
place_of k = 8 + 9 * k

-- the lines of at most n records from record k on, in their order: the letter of each item; at a faulty record a line
-- `refused N` with its number ends the output (RULES 32.5); the stream may end after any record (RULES 32.4)
unfoldable pub lines_from : List ℕ → ℕ → ℕ → List ℕ
lines_from s zero k = []
lines_from s (suc n) k =
    let lines = letter_of (state_at s (place_of k)) ∷ newline ∷ lines_from s n (suc k) in
    cond (leb (length s) (place_of k)) [] (unless refused_text (record_fault s (place_of k)) lines)

-- the most records that are read, and where they end (RULES 32.4)
abbrev pub most_records : ℕ
most_records = 65536

abbrev pub longest_input : ℕ
longest_input = place_of most_records

-- what follows them is not read; for a faulty time the line `refused N` is all (RULES 32.5)
unfoldable pub output_of : List ℕ → List ℕ
output_of s = unless refused_text (time_fault s) (lines_from s most_records 0)
