-- What `zakdomp_merge_by_table` promises, by the promise of `merge_by_table`.
use Rattle.std.specs.Prelude.{ℕ, ◌≡◌, List, length, Float}
use Rattle.lists.specs.Refusals.{judged, result_or}
use Rattle.corner_list.specs.CornerList.{Slices, corners_of}
use Rattle.merge.specs.Merge.{result_of}
use Rattle.merge.specs.Table.{MergesByTable}

-- r is the number of the answer, and the buffer, the table and the count are the answer's too
pub record CornersMergedByTable (radius : Float) (count : ℕ) (b : Slices) (table : List Float) (kept r : ℕ)
    (b' : Slices) (table' : List Float)
    (kept' : ℕ) : Type 0 where
  pub answer : MergesByTable radius count b table
      (judged r (length (result_of radius (corners_of b count)))) b' table'
  pub kept_is : kept' ≡ result_or r (length (result_of radius (corners_of b count))) kept
