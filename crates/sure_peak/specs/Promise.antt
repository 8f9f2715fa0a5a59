-- RULES 28.7: what a call of `sure_peak` refuses and answers.
use Rattle.std.specs.Prelude.{ℕ, ◌≡◌, Bool, cond, List, [], ◌∷◌, length, ℤ, Result}
use Rattle.lists.specs.Places.{Place}
use Rattle.lists.specs.declared.refusal.Refusal.{Refusal}
use Rattle.lists.specs.Refusals.{lowest, number_of, values_by, values_unless, judged, is_large, is_misfit}
use Rattle.frame_params.specs.Ranges.{range_outside}
use Rattle.retouch.specs.Promise.{place_outside}
use Rattle.sure_peak.specs.SurePeak.{is_sure}

-- for two maps with a given number of cells each. 1: a side above the largest; 2: not w * h cells in either map; 3: a
-- ring that is not 5 or 10, a window or a centroid radius above the largest; 14: a place outside
abbrev pub conditions : ℕ → ℕ → ℕ → ℕ → ℕ → ℕ → ℕ → Place → List (Bool × ℕ)
conditions lows highs w h ring window centroid p =
    (is_large w h, 1)
    ∷ (is_misfit lows w h, 2)
    ∷ (is_misfit highs w h, 2)
    ∷ (range_outside ring window centroid, 3)
    ∷ (place_outside w h p, 14)
    ∷ []

unfoldable pub refusal_of : ℕ → ℕ → ℕ → ℕ → ℕ → ℕ → ℕ → Place → ℕ
refusal_of lows highs w h ring window centroid p = lowest (conditions lows highs w h ring window centroid p)

-- the values of an answer: 1 for yes and 0 for no
abbrev pub values_of : Result Bool Refusal → List ℕ
values_of = values_by (λ yes. cond yes 1 0 ∷ [])

-- the promise of `sure_peak`, for the place p of two maps of w by h
pub record SurePeakTold (lows highs : List ℤ) (w h ring threshold window least centroid : ℕ) (p : Place)
    (r : Result Bool Refusal) : Type 0 where
  pub answer : r
      ≡ judged (refusal_of (length lows) (length highs) w h ring window centroid p)
      (is_sure lows highs w h ring threshold window least centroid p)
  pub number : number_of r ≡ refusal_of (length lows) (length highs) w h ring window centroid p
  pub values : values_of r
      ≡ values_unless (refusal_of (length lows) (length highs) w h ring window centroid p)
      (cond (is_sure lows highs w h ring threshold window least centroid p) 1 0 ∷ [])
