-- `pyramid_levels::level_count` meets its contract. Assumes nothing.
use native.Mathlib.Omega.{arith}
use mathlib.Core.Path.{sym, ◌∙◌}
use Rattle.pyramid_levels.proofs.Sides.{counted_stop, counted-all, counted-more, count_none, count-below, count-some}
use Rattle.pyramid_levels.proofs.level_count.Goals as goal
use Rattle.pyramid_levels.proofs.level_count.Goals.{then-most-eq0-via-then-most-eq0, then-most-eq0-via-else-most-eq0+then-is_below}

pub returns-then-most-eq0 : goal.returns-then-most-eq0
returns-then-most-eq0 c =
    elim c.then-most-eq0.branch [
      | then-most-eq0-via-then-most-eq0 w ↦ sym (count_none _ _ _ _ w.if-most-eq0.true)
      | then-most-eq0-via-else-most-eq0+then-is_below w ↦ sym (count-below _ _ _ _ (sym w.is_below.ensures ∙ w.if-is_below.true))
    ]

pub loop-n-init : goal.loop-n-init
loop-n-init c = count-some _ _ _ _ c.if-most-eq0.false (sym c.is_below.ensures ∙ c.if-is_below.false)

pub returns-then-is_too_small : goal.returns-then-is_too_small
returns-then-is_too_small c = counted_stop _ _ _ _ _ _ c.loop-n.invariant (sym c.is_too_small.ensures ∙ c.if-is_too_small.true)

pub loop-n-preserved : goal.loop-n-preserved
loop-n-preserved c =
    counted-more _ _ _ _ _ _ c.loop-n.invariant c.loop-n-test.true (sym c.is_too_small.ensures ∙ c.if-is_too_small.false)

pub returns : goal.returns
returns c = omega (arith, counted-all _ _ _ _ _ _ c.loop-n.invariant c.loop-n-test.false)
