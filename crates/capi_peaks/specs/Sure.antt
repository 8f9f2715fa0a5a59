-- What `zakdomp_sure_peak` promises, by the promise of `sure_peak`.
use Rattle.std.specs.Prelude.{ℕ, ◌≡◌, cond, List, ℤ}
use Rattle.lists.specs.Places.{Place}
use Rattle.lists.specs.Refusals.{judged, result_or}
use Rattle.sure_peak.specs.SurePeak.{is_sure}
use Rattle.sure_peak.specs.Promise as sure_peak

-- r is the number of the answer, and the result is the answer's too: 1 for yes and 0 for no
pub record SureTold (lows highs : List ℤ) (w h ring threshold window least centroid : ℕ) (p : Place)
    (before r after : ℕ) : Type 0 where
  pub answer : sure_peak.SurePeakTold lows highs w h ring threshold window least centroid p
      (judged r (is_sure lows highs w h ring threshold window least centroid p))
  pub sure_is : after ≡ result_or r (cond (is_sure lows highs w h ring threshold window least centroid p) 1 0) before
