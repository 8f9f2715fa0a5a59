-- `response_limits::rows::differences` meets its contract: the loop fills the places from the front. Assumes nothing.
use mathlib.Core.Path.{refl}
use Rattle.lists.proofs.Tab.{prefix-none, prefix-set, prefix-all}
use Rattle.response_limits.proofs.Signed.{stored}
use borrow.Author.Rules.{rules}
use Rattle.response_limits.proofs.rows.differences.Goals as goal

pub loop-i-init : goal.loop-i-init
loop-i-init c = prefix-none _ _ _ refl

pub loop-i-preserved : goal.loop-i-preserved
loop-i-preserved c =
    prefix-set _ _ _ _ _ c.loop-i.invariant (search rules) (stored _ _ c.difference.type_inv c.difference.ensures)

pub returns : goal.returns
returns c = prefix-all _ _ _ _ _ c.loop-i.invariant (search rules) refl
