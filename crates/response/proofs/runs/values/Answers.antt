-- `response::runs::values` meets its contract. Assumes nothing.
use mathlib.Core.Path.{refl}
use borrow.Author.Rules.{rules}
use Rattle.lists.proofs.Tab.{prefix-none, prefix-set, prefix-all}
use Rattle.response.proofs.runs.values.Goals as goal

pub loop-i-init : goal.loop-i-init
loop-i-init c = prefix-none _ _ _ refl

pub loop-i-preserved : goal.loop-i-preserved
loop-i-preserved c = prefix-set _ _ _ _ _ c.loop-i.invariant (search rules) c.value.ensures

pub returns : goal.returns
returns c = prefix-all _ _ _ _ _ c.loop-i.invariant (search rules) refl
