-- `response_limits::rows::inner` meets its contract: the places passed hold their cells' limits. Assumes nothing.
use mathlib.Core.Path.{◌≡◌, refl, sym, ◌∙◌}
use Prim.Native.Nat.{◌+◌, ◌-◌, ◌≤◌}
use native.Mathlib.Nat.{le_refl, add_assoc}
use native.Mathlib.Omega.{arith}
use lib.ListN.{length, take, drop}
use Rattle.lists.proofs.Tab.{prefix-none, prefix-over, prefix-all, part-length-to}
use Rattle.response_limits.proofs.Edges.{lows-shifted, highs-shifted}
use borrow.Author.Rules.{rules}
use Rattle.response_limits.proofs.rows.inner.Goals as goal
use Rattle.response_limits.proofs.rows.inner.Goals.{After-min-e}

pub loop-i-init : goal.loop-i-init
loop-i-init c = (search rules, prefix-none _ _ _ refl, prefix-none _ _ _ c.requires.highs_len.0)

-- where the end of a run is known: both its parts are as long as it
module _ (c : After-min-e) where
  ends : c.min-e.result ≤ length c.args.lows.now
  ends = omega (arith, c.min-e.ensures)

  lows-long : length (take (c.min-e.result - c.loop-i.i) (drop c.loop-i.i c.loop-i.lows))
      ≡ c.min-e.result - c.loop-i.i
  lows-long = part-length-to _ _ _ (omega (arith, ends, c.loop-i.invariant.1.long))

  highs-long : length (take (c.min-e.result - c.loop-i.i) (drop c.loop-i.i c.loop-i.highs))
      ≡ c.min-e.result - c.loop-i.i
  highs-long = part-length-to _ _ _ (omega (arith, ends, c.loop-i.invariant.2.long))

pub run-requires : goal.run-requires
run-requires c =
    record {
      image_with_table = c.requires.image_with_table;
      lows_len_bound = (
        rw (lows-long (goal.at.run-requires c).After-min-e) (omega arith),
        highs-long (goal.at.run-requires c).After-min-e ∙ sym (lows-long (goal.at.run-requires c).After-min-e),
        rw (lows-long (goal.at.run-requires c).After-min-e)
            (omega (arith, ends (goal.at.run-requires c).After-min-e, c.requires.highs_len.1)),
      );
      by_index = λ k l. rw add_assoc (c.requires.by_index (c.loop-i.i + k)
          (omega (arith, ends (goal.at.run-requires c).After-min-e, lows-long (goal.at.run-requires c).After-min-e)));
    }

pub loop-i-preserved : goal.loop-i-preserved
loop-i-preserved c = (
  ends (goal.at.loop-i-preserved c).After-min-e,
  prefix-over _ _ _ _ _ c.loop-i.invariant.1 (le_refl _) _ _ _ (search rules) (ends (goal.at.loop-i-preserved c).After-min-e)
      (lows-shifted _ _ _ _ _ _ _ _ _ _ c.run.ensures.lows_are) (lows-long (goal.at.loop-i-preserved c).After-min-e),
  prefix-over _ _ _ _ _ c.loop-i.invariant.2 (le_refl _) _ _ _ (search rules) (ends (goal.at.loop-i-preserved c).After-min-e)
      (highs-shifted _ _ _ _ _ _ _ _ _ _ c.run.ensures.highs_are) (highs-long (goal.at.loop-i-preserved c).After-min-e),
)

pub returns : goal.returns
returns c =
    record {
      lows_are = prefix-all _ _ _ _ _ c.loop-i.invariant.1 (search rules) refl;
      highs_are = prefix-all _ _ _ _ _ c.loop-i.invariant.2 (search rules) (sym c.requires.highs_len.0);
    }
