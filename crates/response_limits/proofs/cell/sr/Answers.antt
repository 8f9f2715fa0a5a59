-- `response_limits::cell::sr` meets its contract: the loop adds up the four terms. Assumes nothing.
use mathlib.Core.Path.{◌≡◌}
use Prim.Native.Nat.{◌≤◌}
use native.Mathlib.Omega.{arith}
use Rattle.response_limits.proofs.Sums.{sr_term, sr-term, added_none, added_next, added-all}
use borrow.Author.Rules.{rules}
use Rattle.response_limits.proofs.cell.sr.Goals as goal
use Rattle.response_limits.proofs.cell.sr.Goals.{After-apart-sr}

pub loop-k-init : goal.loop-k-init
loop-k-init c = added_none _ _

-- what a turn adds
term : (c : After-apart-sr)
    → (c.apart-sr.result ≡ sr_term c.args.p c.args.q c.loop-k.k) × (c.apart-sr.result ≤ 510)
term c =
    sr-term c.args.p c.args.q c.loop-k.k _ _ _ _ _ c.pair-a.ensures.0 c.pair-b.ensures.0 c.pair-c.ensures.0
    c.pair-d.ensures.0 c.pair-a.ensures.1 c.pair-b.ensures.1 c.apart-sr.ensures

pub overflow_add-sr : goal.overflow_add-sr
overflow_add-sr c = omega (arith, c.loop-k.invariant.sum_small, (term (goal.at.overflow_add-sr c).After-apart-sr).1)

pub loop-k-preserved : goal.loop-k-preserved
loop-k-preserved c =
    added_next _ _ _ _ _ c.loop-k.invariant (term (goal.at.loop-k-preserved c).After-apart-sr).0
    (term (goal.at.loop-k-preserved c).After-apart-sr).1

pub returns : goal.returns
returns c = added-all _ _ 4 _ _ c.loop-k.invariant (search rules)
