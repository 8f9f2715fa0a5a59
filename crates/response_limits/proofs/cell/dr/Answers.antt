-- `response_limits::cell::dr` meets its contract: the loop adds up the eight terms. Assumes nothing.
use native.Mathlib.Omega.{arith}
use borrow.Author.Rules.{rules}
use Rattle.response_limits.proofs.Sums.{added_none, added_next, added-all}
use Rattle.response_limits.proofs.cell.dr.Goals as goal

pub loop-k-init : goal.loop-k-init
loop-k-init c = added_none _ _

pub loop-k-preserved : goal.loop-k-preserved
loop-k-preserved c =
    added_next _ _ _ _ _ c.loop-k.invariant c.byte_apart-dr.ensures.0 (omega (arith, c.byte_apart-dr.ensures.1))

pub returns : goal.returns
returns c = added-all _ _ 8 _ _ c.loop-k.invariant (search rules)
