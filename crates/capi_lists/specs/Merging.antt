-- What `zakdomp_merge` promises, by the promise of `merge_corners_simple`.
use Rattle.std.specs.Prelude.{ℕ, ◌≡◌, length, Float}
use Rattle.corner_list.specs.CornerList.{Slices, corners_of, places_of}
use Rattle.merge.specs.Merge.{result_of, Merges}
use Rattle.lists.specs.Refusals.{judged, result_or}

-- r is the number of the answer, and the buffer and the count are the answer's too
pub record CornersMerged (radius : Float) (count : ℕ) (b : Slices) (kept r : ℕ) (b' : Slices) (kept' : ℕ) : Type 0 where
  pub answer : Merges radius (places_of b) count b
      (judged r (length (result_of radius (corners_of b count)))) b'
  pub kept_is : kept' ≡ result_or r (length (result_of radius (corners_of b count))) kept
