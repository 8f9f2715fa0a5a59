-- What `zakdomp_has_peaks` promises, by the promise of `has_peaks`.
use Rattle.std.specs.Prelude.{ℕ, ◌≡◌, Bool, cond, List, length, leb, Float}
use Rattle.lists.specs.Refusals.{judged, result_or}
use Rattle.detect.specs.declared.Search.{Search}
use Rattle.detect.specs.Detect.{peaks_in}
use Rattle.detect.specs.Enough.{rows_for, enough_of, EnoughFound}

-- r is the number of the answer, and `enough` and the rows are the answer's too
pub record PeaksCounted (conds : List (Bool × ℕ)) (m : List Float) (s : Search)
    (wanted enough rows r enough' rows' : ℕ) : Type 0 where
  pub answer : EnoughFound conds m s wanted (judged r (enough_of s wanted (peaks_in m s)))
  pub enough_is : enough' ≡ result_or r (cond (leb wanted (length (peaks_in m s))) 1 0) enough
  pub rows_is : rows' ≡ result_or r (rows_for s wanted (peaks_in m s)) rows
