-- `response_limits::cell::ring_sum` meets its contract: the loop adds up the eight pairs. Assumes nothing.
use mathlib.Core.Path.{◌∙◌}
use Rattle.response_limits.proofs.Sums.{paired, added_none, added_next, added-all}
use borrow.Author.Rules.{rules}
use Rattle.response_limits.proofs.cell.ring_sum.Goals as goal

pub loop-k-init : goal.loop-k-init
loop-k-init c = added_none _ _

pub loop-k-preserved : goal.loop-k-preserved
loop-k-preserved c = added_next _ _ _ _ _ c.loop-k.invariant c.pair-sum.ensures.0 c.pair-sum.ensures.1

pub returns : goal.returns
returns c =
    let all = added-all _ _ 8 _ _ c.loop-k.invariant (search rules) in
    (all.0 ∙ paired c.args.p, all.1)
