-- `merge_settle::settling::merge_with` meets its contract: each turn settles the next corner, and the kept ones stay indexed. Assumes
-- nothing.
use native.Mathlib.Omega.{arith}
use Rattle.std.proofs.Common.{rules}
use mathlib.Core.Path.{refl, sym}
use mathlib.Core.Logic.{inr}
use Rattle.merge_settle.proofs.Stepping.{given-by, stepped-none, stepped-fits, stepped-turn, stops_end}
use Rattle.merge_settle.proofs.Indexing.{indexed-viewed}
use Rattle.merge_settle.proofs.settling.merge_with.Goals as goal

pub loop-i-init : goal.loop-i-init
loop-i-init c =
    let listed = indexed-viewed _ _ c.view-v.ensures c.list_kept.ensures in
    (search rules, stepped-none _ _ _ _ _ c.requires.n_bound c.requires.step, listed, refl)

pub shape_of-table-then-most-k : goal.shape_of-table-then-most-k
shape_of-table-then-most-k c = omega (arith, c.loop-i.invariant.3, c.list_kept.auto)

pub returns-then-most-k-clause-stopped : goal.returns-then-most-k-clause-stopped
returns-then-most-k-clause-stopped c = record { stepped = c.loop-i.invariant.1; far = inr c.if-most-k.true }

pub refresh-floor-requires : goal.refresh-floor-requires
refresh-floor-requires c = indexed-viewed _ _ (sym c.view-v-in-loop-i.ensures) c.loop-i.invariant.2

pub settle_listed-k-requires : goal.settle_listed-k-requires
settle_listed-k-requires c =
    record {
      k_bound = stepped-fits _ _ _ _ _ _ _ c.loop-i.invariant.1 c.requires.n_bound c.loop-i-test.true;
      indexed = indexed-viewed _ _ c.view-v-in-loop-i.ensures c.refresh-floor.ensures;
    }

pub overflow_step-i : goal.overflow_step-i
overflow_step-i c = omega (arith, c.loop-i-test.true, c.ranges.n)

pub loop-i-smaller : goal.loop-i-smaller
loop-i-smaller c = omega (arith, c.loop-i-test.true)

pub loop-i-preserved : goal.loop-i-preserved
loop-i-preserved c =
    let next = given-by c.args.list _ _ _ _ c.view-v-in-loop-i.ensures c.given_at-c.ensures in
    let step = stepped-turn _ _ _ _ _ _ _ c.loop-i.invariant.1 c.loop-i-test.true _ next _ _ c.settle_listed-k.ensures.settled in (
      search rules,
      step,
      c.settle_listed-k.ensures.indexed_2,
      omega (arith, c.settle_listed-k.auto, c.refresh-floor.auto, c.loop-i.invariant.3),
    )

pub shape_of-table : goal.shape_of-table
shape_of-table c = omega (arith, c.loop-i.invariant.3, c.list_kept.auto)

pub returns-clause-stopped : goal.returns-clause-stopped
returns-clause-stopped c = stops_end _ _ _ _ _ _ _ _ _ c.loop-i.invariant.1 c.loop-i-test.false
