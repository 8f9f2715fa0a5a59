-- Merging with a borrowed table (RULES 8.7), the index of the kept corners: what is left of a list does not depend on
-- the table.
use Rattle.std.specs.Prelude.{ℕ, ◌≡◌, List, Float, Result}
use Rattle.lists.specs.Buffer.{wiped_from}
use Rattle.lists.specs.declared.refusal.Refusal.{Refusal}
use Rattle.lists.specs.Refusals.{result_or}
use Rattle.float32.specs.Float32.{zero}
use Rattle.corner_list.specs.CornerList.{Slices, places_of}
use Rattle.merge.specs.Merge.{refusal_of, Merges}

-- What merging the first `count` corners of a buffer b with a table promises: the answer and the buffer of merging in
-- place (8.5), whatever the table's length; and the table after: zero in its whole length, or unchanged if refused
pub record MergesByTable (radius : Float) (count : ℕ) (b : Slices) (table : List Float) (r : Result ℕ Refusal)
    (b' : Slices) (table' : List Float) : Type 0 where
  pub merges : Merges radius (places_of b) count b r b'
  pub cleared : table' ≡ result_or (refusal_of radius (places_of b) count b) (wiped_from 0 zero table) table
