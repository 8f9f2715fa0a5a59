-- `response::tile::offsets_in` meets its contract. The loop fills the offsets from the front. Assumes nothing.
use mathlib.Core.Path.{refl, ◌∙◌}
use borrow.Author.Rules.{rules}
use Rattle.lists.proofs.Tab.{prefix-none, prefix-set, prefix-all}
use Rattle.response.proofs.tile.offsets_in.Goals as goal

pub loop-k-init : goal.loop-k-init
loop-k-init c = (
  prefix-none _ _ _ refl,
  c.ring_offsets-t.ensures,
)

pub loop-k-preserved : goal.loop-k-preserved
loop-k-preserved c = (
  prefix-set _ _ _ _ _ c.loop-k.invariant.0 (search rules) (c.offset.ensures ∙ rw c.loop-k.invariant.1),
  c.loop-k.invariant.1,
)

pub returns : goal.returns
returns c = prefix-all _ _ _ _ _ c.loop-k.invariant.0 (search rules) refl
