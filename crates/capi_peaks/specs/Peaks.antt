-- What `zakdomp_peaks` promises, by the promise of `find_peaks` of `detect`.
use Rattle.std.specs.Prelude.{ℕ, ◌≡◌, Bool, List, length}
use Rattle.corner_list.specs.CornerList.{Slices}
use Rattle.corner_list.specs.declared.Corner.{Corner}
use Rattle.detect.specs.Detect.{PeaksAdded}
use Rattle.lists.specs.Refusals.{judged, result_or}

-- r is the number of the answer, and the buffer, the count and the ties are the answer's too
pub record PeaksFound (conds : List (Bool × ℕ)) (cs : List Corner) (sum held : ℕ) (b : Slices)
    (added ties r : ℕ) (b' : Slices) (added' ties' : ℕ)
    : Type 0 where
  pub answer : PeaksAdded conds cs sum held b (judged r (record { count = length cs; ties = sum })) b'
  pub added_is : added' ≡ result_or r (length cs) added
  pub ties_are : ties' ≡ result_or r sum ties
