-- Merging corners by distance alone (merge.rs, `merge_corners_naive`; RULES 31): each corner joins the first kept
-- corner that is near, whatever cells they lie in, and replaces it if it is strictly stronger; if there is none, it is
-- kept.
use Rattle.std.specs.Prelude.{ℕ, Bool, cond, List, [], Float, Result}
use Rattle.lists.specs.declared.refusal.Refusal.{Refusal}
use Rattle.corner_list.specs.declared.Corner.{Corner}
use Rattle.corner_list.specs.CornerList.{Slices, places_of, corners_of}
use Rattle.merge_radius.specs.MergeRadius.{is_off}
use Rattle.merge_refusal.specs.Refusals.{refusal_of}
use Rattle.merge_grid.specs.Grid.{position_of, squared, near}
use Rattle.merge_settle.specs.Settle.{merged}
use Rattle.merge.specs.Merge.{Leaves}

-- two corners that join: their squared distance in f32 is at most the radius squared, which is given (RULES 31.1)
abbrev pub near_by : Float → Corner → Corner → Bool
near_by square c o = near square (position_of c) (position_of o)

-- what is left of a list of corners (RULES 31.2); an off radius leaves it unchanged
unfoldable pub naive_of : Float → List Corner → List Corner
naive_of radius cs = cond (is_off radius) cs (merged (near_by (squared radius)) [] cs)

-- What merging the first `count` corners of a buffer by distance alone promises (RULES 31.3); its refusals are those of
-- `merge_corners_simple`
abbrev pub MergesNaive : Float → ℕ → Slices → Result ℕ Refusal → Slices → Type 0
MergesNaive radius count b r b' =
    Leaves (refusal_of radius (places_of b) count b) (naive_of radius (corners_of b count)) b r b'
