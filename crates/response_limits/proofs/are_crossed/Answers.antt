-- `response_limits::are_crossed` meets its contract: the loop keeps the most by which a low value is above its high one. Assumes nothing.
use Rattle.response_limits.proofs.Crossed.{compared-none, compared-next, compared-all}
use borrow.Author.Rules.{rules}
use Rattle.response_limits.proofs.are_crossed.Goals as goal

pub loop-i-init : goal.loop-i-init
loop-i-init c = compared-none _ _

pub loop-i-preserved : goal.loop-i-preserved
loop-i-preserved c =
    compared-next _ _ _ _ c.loop-i.invariant (search rules) _ _ c.saturating_sub.ensures c.max-most.ensures

pub returns : goal.returns
returns c = compared-all _ _ _ _ c.loop-i.invariant (search rules)
