-- Merging corners (RULES 8; merge.rs): the corners are settled one after the other, by the grid of the list.
use Rattle.std.specs.Prelude.{ℕ, ◌≡◌, cond, List, [], ◌∷◌, length, Float, Result}
use Rattle.lists.specs.declared.refusal.Refusal.{Refusal}
use Rattle.lists.specs.Refusals.{number_of, values_by, values_unless, judged, result_or}
use Rattle.corner_list.specs.declared.Corner.{Corner}
use Rattle.corner_list.specs.CornerList.{Slices, corners_of, front_corners}
use Rattle.merge_radius.specs.MergeRadius.{is_off}
unfoldable pub use Rattle.merge_refusal.specs.Refusals.{refusal_of}
use Rattle.merge_settle.specs.Settle.{merged}
use Rattle.merge_grid.specs.Grid.{joins, grid_of}

-- ---- the list that is left

-- what is left of a list of corners; an off radius leaves it unchanged
unfoldable pub result_of : Float → List Corner → List Corner
result_of radius cs = cond (is_off radius) cs (merged (joins (grid_of radius cs)) [] cs)

-- ---- the promise

-- the value of an answer: how many corners are left
abbrev pub values_of : Result ℕ Refusal → List ℕ
values_of = values_by (λ n. n ∷ [])

-- What a call promises that leaves the corners `left`, or is refused with the number k: the answer (how many are left),
-- its number and values, and the buffer after: what is left at the start, the rest unchanged; if refused, all of it
-- unchanged
pub record Leaves (k : ℕ) (left : List Corner) (b : Slices) (r : Result ℕ Refusal) (b' : Slices) : Type 0 where
  pub answer : r ≡ judged k (length left)
  pub number : number_of r ≡ k
  pub values : values_of r ≡ values_unless k (length left ∷ [])
  pub buffer : b' ≡ result_or k (front_corners left b) b

-- merging the first `count` corners of a buffer with a given number of places
abbrev pub Merges : Float → ℕ → ℕ → Slices → Result ℕ Refusal → Slices → Type 0
Merges radius places count b r b' =
    Leaves (refusal_of radius places count b) (result_of radius (corners_of b count)) b r b'
