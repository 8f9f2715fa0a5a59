-- Enough peaks (RULES 26): whether a map has at least a given number, how many rows are looked at, and what is
-- promised.
use Rattle.std.specs.Prelude.{◌≡◌, ℕ, zero, suc, ◌+◌, ◌-◌, ◌*◌, ◌<◌, ◌≤◌, Bool, true, false, cond, List, [], ◌∷◌}
use Rattle.std.specs.Prelude.{length, drop, nat_le, Float, Result, Ok, Err}
use Rattle.lists.specs.Places.{Place}
use Rattle.lists.specs.declared.refusal.Refusal.{Refusal}
use Rattle.lists.specs.Refusals.{lowest, number_of, judged, values_unless}
use Rattle.detect.specs.declared.Search.{Search}
use Rattle.detect.specs.declared.enough.Enough.{Enough}
use Rattle.detect.specs.declared.enough.Enough.TheVariants.{Yes, No}
use Rattle.detect.specs.Peaks.{value_at}
use Rattle.detect.specs.Detect.{peaks_in}

-- RULES 26.2: the rows inside the border; none if a side is at most twice the border
unfoldable pub rows_inside : Search → ℕ
rows_inside s = cond (nat_le s.w (2 * s.border)) 0 (s.h - 2 * s.border)

-- the rows from the first inside the border up to that of the first of some peaks, both included; all if there is no
-- peak
abbrev pub rows_to : Search → List Place → ℕ
rows_to s [] = rows_inside s
rows_to s (p ∷ ps) = p.y - s.border + 1

-- and the rows looked at if n of the peaks ps are needed: up to that of the nth
abbrev pub rows_for : Search → ℕ → List Place → ℕ
rows_for s zero ps = 0
rows_for s (suc n) ps = rows_to s (drop n ps)

-- RULES 26.1: the answer, by whether there are enough, with the rows
abbrev pub answer_of : Bool → ℕ → Enough
answer_of true rows = Yes rows
answer_of false rows = No rows

unfoldable pub enough_of : Search → ℕ → List Place → Enough
enough_of s n ps = answer_of (nat_le n (length ps)) (rows_for s n ps)

-- RULES 15.1: the values of each case: 1 for yes and 0 for no, and the rows
abbrev pub values_of : Result Enough Refusal → List ℕ
values_of (Ok (Yes rows)) = 1 ∷ rows ∷ []
values_of (Ok (No rows)) = 0 ∷ rows ∷ []
values_of (Err e) = []

-- What `has_peaks` promises, under the conditions conds on the input, for a map m that is searched with s for a given
-- number of peaks
pub record EnoughFound (conds : List (Bool × ℕ)) (m : List Float) (s : Search) (wanted : ℕ)
    (r : Result Enough Refusal) : Type 0 where
  pub answer : r ≡ judged (lowest conds) (enough_of s wanted (peaks_in m s))
  pub number : number_of r ≡ lowest conds
  pub values : values_of r
      ≡ values_unless (lowest conds) (cond (nat_le wanted (length (peaks_in m s))) 1 0 ∷ rows_for s wanted
      (peaks_in m s) ∷ [])

-- RULES 26.4: m and m' agree in every row that is no further than the window's radius from one of the first n rows
-- inside the border
abbrev pub SameNear : Search → ℕ → List Float → List Float → Type 0
SameNear s n m m' =
    (x y r : ℕ) → r < n → x < s.w → s.border + r ≤ y + s.window → y ≤ s.border + r + s.window
    → value_at m s.w (record { x = x; y = y }) ≡ value_at m' s.w (record { x = x; y = y })
