-- `patch_corners::localizing::centre_all` meets its contract. Assumes nothing.
use borrow.Author.Rules.{rules}
use native.Mathlib.Omega.{arith}
use mathlib.Core.Path.{ap, ◌∙◌}
use Rattle.patch_corners.specs.MapCorners.{centred}
use Rattle.patch_corners.proofs.Changing.{changing-none, changing-put, changing-all}
use Rattle.patch_corners.proofs.localizing.centre_all.Goals as goal

pub loop-i-init : goal.loop-i-init
loop-i-init c = (search rules, changing-none _ _ _ _)

pub overflow_step-i : goal.overflow_step-i
overflow_step-i c = omega (arith, c.well_formed)

pub loop-i-preserved : goal.loop-i-preserved
loop-i-preserved c = (
  search rules,
  changing-put _ _ _ _ c.requires.0 _ _ c.loop-i.invariant.1 c.loop-i-test.true _ _ _ c.at-c.ensures
      (c.centre.ensures ∙ ap (centred c.args.radius c.args.map.now c.args.w c.args.h) c.lower.ensures)
      c.put.ensures.put,
)

pub returns-clause-changed : goal.returns-clause-changed
returns-clause-changed c = changing-all _ _ _ _ (omega arith) _ _ c.loop-i.invariant.1 (omega arith)
