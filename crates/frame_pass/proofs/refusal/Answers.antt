-- `frame_pass::refusal` meets its contract: each return rewrites the table by the tests that led there. Assumes nothing.
use native.Mathlib.Omega.{arith}
use mathlib.Core.Path.{◌≡◌, sym, ◌∙◌}
use mathlib.Core.Bool.{true, false}
use mathlib.Core.List.{[], ◌∷◌}
use borrow.Author.Tests.{lt-ltb, le-ltb, not-true, not-false}
use Rattle.lists.specs.Refusals.{lowest}
use Rattle.lists.specs.Internal.{Sized}
use Rattle.lists.proofs.Judged.{passed-on}
use Rattle.image_size.proofs.Judged.{refused, sized, passed}
use Rattle.pyramid_levels.specs.Refusals.{ask, is_level_buffer_short}
use Rattle.merge_radius.specs.MergeRadius.{radius_outside}
use Rattle.frame_params.specs.Ranges.{parameters_fit}
use Rattle.frame_pass.specs.Refusals.{conditions}
use Rattle.frame_pass.proofs.Refusals.{short, enough}
use Rattle.frame_pass.proofs.refusal.Goals as goal
use Rattle.frame_pass.proofs.refusal.Goals.{After-cells_above, Else-is_outside, Else-not-parameters_fit, In_ok-refusal}

pub returns-in_err-refusal : goal.returns-in_err-refusal
unfolding conditions
returns-in_err-refusal c = rw (passed-on _ c.from_residual.ensures.1) (refused _ _ _ _ _ _ c.in_err-refusal.ensures)

-- past 1 and 2
image : (c : In_ok-refusal) → Sized c.args.pixels c.args.w c.args.h
image c = sized _ _ _ _ c.in_ok-refusal.ensures

pub returns-then-not-parameters_fit : goal.returns-then-not-parameters_fit
unfolding conditions
returns-then-not-parameters_fit c =
    rw (
      passed _ _ _ _ (image (goal.at.returns-then-not-parameters_fit c).In_ok-refusal),
      sym c.parameters_fit.ensures ∙ not-true _ c.if-not-parameters_fit.true-raw,
    )

-- past 3
fit : (c : Else-not-parameters_fit) → parameters_fit c.args.p ≡ true
fit c = sym c.parameters_fit.ensures ∙ not-false _ c.if-not-parameters_fit.false-raw

pub returns-then-is_outside : goal.returns-then-is_outside
unfolding conditions
returns-then-is_outside c =
    rw (
      passed _ _ _ _ (image (goal.at.returns-then-is_outside c).In_ok-refusal),
      fit (goal.at.returns-then-is_outside c).Else-not-parameters_fit,
      sym c.is_outside.ensures ∙ c.if-is_outside.true,
    )

-- past 5
inside : (c : Else-is_outside) → radius_outside c.args.p.merge_radius ≡ false
inside c = sym c.is_outside.ensures ∙ c.if-is_outside.false

pub overflow_mul-w : goal.overflow_mul-w
overflow_mul-w c = let size = (image (goal.at.overflow_mul-w c).In_ok-refusal).sized in record { fits = omega arith }

pub returns-then-cells-w : goal.returns-then-cells-w
unfolding conditions
returns-then-cells-w c =
    rw (
      passed _ _ _ _ (image (goal.at.returns-then-cells-w c).In_ok-refusal),
      fit (goal.at.returns-then-cells-w c).Else-not-parameters_fit,
      inside (goal.at.returns-then-cells-w c).Else-is_outside,
      lt-ltb _ _ c.if-cells-w.true,
    )

-- past 8, what is left of the table
last : (c : After-cells_above)
    → lowest (conditions c.args.p c.args.pixels c.args.w c.args.h c.args.cells c.args.places)
    ≡ lowest ((is_level_buffer_short (ask c.args.pixels c.args.places c.args.w c.args.h c.args.p.levels c.args.p.minimum_side), 9) ∷ [])
unfolding conditions
last c =
    rw (
      passed _ _ _ _ (image (goal.at.After-cells_above c).In_ok-refusal),
      fit (goal.at.After-cells_above c).Else-not-parameters_fit,
      inside (goal.at.After-cells_above c).Else-is_outside,
      le-ltb _ _ c.if-cells-w.false,
    )

pub returns-then-places-cells_above : goal.returns-then-places-cells_above
returns-then-places-cells_above c =
    rw (
      last (goal.at.returns-then-places-cells_above c).After-cells_above,
      short c.args.p _ _ _ _ (image (goal.at.returns-then-places-cells_above c).In_ok-refusal) _ c.cells_above.ensures
          c.if-places-cells_above.true,
    )

pub returns : goal.returns
returns c =
    rw (
      last (goal.at.returns c).After-cells_above,
      enough c.args.p _ _ _ _ (image (goal.at.returns c).In_ok-refusal) _ c.cells_above.ensures c.if-places-cells_above.false,
    )
