-- `merge_naive::merge_list` meets its contract: off, or each turn settles the next corner. Assumes nothing.
use native.Mathlib.Omega.{arith}
use Rattle.std.proofs.Common.{rules}
use mathlib.Core.Path.{sym, ◌∙◌}
use Rattle.merge_settle.proofs.Stepping.{stepped-none, stepped-fits, stepped-turn, stops_end, stops-all}
use Rattle.merge_naive.proofs.Naive.{left-off, left-on}
use Rattle.merge_naive.proofs.merge_list.Goals as goal

pub returns-then-is_off-clause-left : goal.returns-then-is_off-clause-left
returns-then-is_off-clause-left c = left-off _ _ _ (sym c.is_off.ensures ∙ c.if-is_off.true) c.requires

pub loop-i-init : goal.loop-i-init
loop-i-init c =
    (search rules, stepped-none _ _ _ _ _ c.requires (record { few = omega arith; upto = omega arith }))

pub settle_near-k-requires : goal.settle_near-k-requires
settle_near-k-requires c = stepped-fits _ _ _ _ _ _ _ c.loop-i.invariant.1 c.requires c.loop-i-test.true

pub overflow_step-i : goal.overflow_step-i
overflow_step-i c = omega (arith, c.loop-i-test.true, c.ranges.n)

pub loop-i-smaller : goal.loop-i-smaller
loop-i-smaller c = omega (arith, c.loop-i-test.true)

pub loop-i-preserved : goal.loop-i-preserved
loop-i-preserved c = (
  search rules,
  stepped-turn _ _ _ _ _ _ _ c.loop-i.invariant.1 c.loop-i-test.true _
      c.at-c.ensures _ _ c.settle_near-k.ensures.settled,
)

pub returns-clause-left : goal.returns-clause-left
returns-clause-left c =
    left-on _ _ _ _ _ (sym c.is_off.ensures ∙ c.if-is_off.false)
    (stops-all _ _ _ _ _ _ (stops_end _ _ _ _ _ _ _ _ _ c.loop-i.invariant.1 c.loop-i-test.false))
