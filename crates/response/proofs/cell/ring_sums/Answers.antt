-- `response::cell::ring_sums` meets its contract: the loop holds what is held of the pairs passed. Assumes nothing.
use borrow.Author.Rules.{rules}
use Rattle.response.proofs.OnePass.{small-none, passed_none, passed-next, passed-end}
use Rattle.response.proofs.cell.ring_sums.Goals as goal

pub loop-k-init : goal.loop-k-init
loop-k-init c = (passed_none _, small-none)

pub with_pair-h-requires : goal.with_pair-h-requires
with_pair-h-requires c = (search rules, c.loop-k.invariant.1, c.requires _, c.requires _)

pub loop-k-preserved : goal.loop-k-preserved
loop-k-preserved c =
    (passed-next _ c.loop-k.k _ _ c.loop-k.invariant.0 c.with_pair-h.ensures.0, c.with_pair-h.ensures.1)

pub returns : goal.returns
returns c = passed-end _ _ _ _ c.loop-k.invariant.0 (search rules)
