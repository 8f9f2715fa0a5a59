-- What `zakdomp_merge_naive` promises, by the promise of `merge_corners_naive`.
use Rattle.std.specs.Prelude.{ℕ, ◌≡◌, length, Float}
use Rattle.lists.specs.Refusals.{judged, result_or}
use Rattle.corner_list.specs.CornerList.{Slices, corners_of}
use Rattle.merge_naive.specs.MergeNaive.{naive_of, MergesNaive}

-- r is the number of the answer, and the buffer and the count are the answer's too
pub record CornersMergedNaively (radius : Float) (count : ℕ) (b : Slices) (kept r : ℕ) (b' : Slices)
    (kept' : ℕ) : Type 0 where
  pub answer : MergesNaive radius count b (judged r (length (naive_of radius (corners_of b count)))) b'
  pub kept_is : kept' ≡ result_or r (length (naive_of radius (corners_of b count))) kept
