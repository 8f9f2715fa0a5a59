-- Request 7 (RULES 26): "Answer whether a map has at least N, reading in row order and ending when N is reached. The
-- answer is the one full counting gives."
use Rattle.std.specs.Prelude.{ℕ, ◌≤◌, ◌≡◌, ◌↔◌, Bool, true, List, length, get_or, Float, eqb, Result}
use Rattle.lists.specs.declared.refusal.Refusal.{Refusal}
use Rattle.lists.specs.Refusals.{number_of}
use Rattle.detect.specs.declared.enough.Enough.{Enough}
use Rattle.detect.specs.Detect.{search_of, peaks_in, conditions}
use Rattle.detect.specs.Enough.{EnoughFound, SameNear, values_of}
use Rattle.demands.specs.PeakCall.{PeakCall}

-- the promise of `has_peaks` for a map m of w by h cells, word for word
abbrev pub HasPeaks : List Float → ℕ → ℕ → ℕ → Float → ℕ → ℕ → ℕ → ℕ → Result Enough Refusal → Type 0
HasPeaks m w h ring threshold window least radius wanted r =
    EnoughFound (conditions (length m) w h ring window radius) m
    (search_of w h ring threshold window least radius) wanted r

-- whether an answer is yes, the first of its values
abbrev pub is_yes : Result Enough Refusal → Bool
is_yes r = eqb (get_or (values_of r) 0 0) 1

-- and the rows that were looked at according to it, none if it is a refusal
abbrev pub rows_of : Result Enough Refusal → ℕ
rows_of r = get_or (values_of r) 1 0

-- "The answer is the one full counting gives": yes exactly when N is at most the number of the map's peaks
pub record EnoughIsCounting : Type 0 where
  pub by_peaks : (m : List Float) (w h ring : ℕ) (threshold : Float) (window least radius wanted : ℕ)
      (r : Result Enough Refusal) → HasPeaks m w h ring threshold window least radius wanted r → number_of r ≡ 0
      → (is_yes r ≡ true) ↔ (wanted ≤ length (peaks_in m (search_of w h ring threshold window least radius)))
  -- and that number is how many peak finding adds to a buffer, with the same parameters
  pub by_call : (m : List Float) (w h : ℕ) (p : PeakCall m w h) (wanted : ℕ) (r : Result Enough Refusal)
      → HasPeaks m w h p.ring p.threshold p.window p.least_neighbours p.radius wanted r
      → (is_yes r ≡ true) ↔ (wanted ≤ p.added)

-- "ending when N is reached": a map that differs only in rows further than the window's radius from those looked at
-- gets the same answer
abbrev pub LooksNoFurther : Type 0
LooksNoFurther =
    (m m' : List Float) (w h ring : ℕ) (threshold : Float) (window least radius wanted : ℕ)
    (r r' : Result Enough Refusal)
    → HasPeaks m w h ring threshold window least radius wanted r
    → HasPeaks m' w h ring threshold window least radius wanted r'
    → length m ≡ length m' → SameNear (search_of w h ring threshold window least radius) (rows_of r) m m'
    → r ≡ r'
