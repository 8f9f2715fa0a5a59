-- What `zakdomp_merge_apart` promises, by the promise of `merge_apart`.
use Rattle.std.specs.Prelude.{ℕ, ◌≡◌, length, Float}
use Rattle.lists.specs.Refusals.{judged, result_or}
use Rattle.corner_list.specs.CornerList.{Slices, corners_of}
use Rattle.merge.specs.Merge.{result_of}
use Rattle.merge.specs.Apart.{MergedApart}

-- r is the number of the answer, and the separate buffer d and the count are the answer's too
pub record CornersMergedApart (radius : Float) (count : ℕ) (b d : Slices) (kept r : ℕ) (d' : Slices)
    (kept' : ℕ) : Type 0 where
  pub answer : MergedApart radius count b d
      (judged r (length (result_of radius (corners_of b count)))) d'
  pub kept_is : kept' ≡ result_or r (length (result_of radius (corners_of b count))) kept
