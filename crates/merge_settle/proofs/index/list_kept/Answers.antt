-- `merge_settle::index::list_kept` meets its contract: the corners passed are indexed. Assumes nothing.
use mathlib.Core.Path.{refl, ◌∙◌}
use Rattle.merge_settle.proofs.Slots.{some-slots, some-floats}
use Rattle.merge_settle.proofs.Indexing.{indexed-none, indexed-turn, indexed-fewer}
use Rattle.merge_settle.proofs.index.list_kept.Goals as goal

pub loop-i-init : goal.loop-i-init
loop-i-init c = (indexed-none _ _ _ _ _ (some-slots c.args.table.now c.requires), refl)

pub list_near-requires : goal.list_near-requires
list_near-requires c = some-floats c.loop-i.table c.loop-i.invariant.0.some

pub loop-i-preserved : goal.loop-i-preserved
loop-i-preserved c = (
  indexed-turn _ _ _ _ _ _ c.loop-i.invariant.0 _ c.position_at.ensures _ c.list_near.ensures,
  c.list_near.auto.table ∙ c.loop-i.invariant.1,
)

pub shape_of-table : goal.shape_of-table
shape_of-table c = c.loop-i.invariant.1

pub returns : goal.returns
returns c = indexed-fewer _ _ _ _ _ _ _ c.loop-i.invariant.0 c.loop-i-test.false
