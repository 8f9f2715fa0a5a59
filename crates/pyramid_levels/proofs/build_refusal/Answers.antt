-- `pyramid_levels::build_refusal` meets its contract: the base is judged first, and then the level buffer. Assumes nothing.
use mathlib.Core.Path.{◌∙◌}
use Rattle.lists.specs.Internal.{Sized}
use Rattle.lists.proofs.Judged.{passed-on}
use Rattle.image_size.proofs.Judged.{refused, sized}
use Rattle.pyramid_levels.specs.Refusals.{build_refusal_of}
use Rattle.pyramid_levels.proofs.Refusals.{build-short, build-long}
use Rattle.pyramid_levels.proofs.build_refusal.Goals as goal
use Rattle.pyramid_levels.proofs.build_refusal.Goals.{In_ok-refusal}

pub returns-in_err-refusal : goal.returns-in_err-refusal
unfolding build_refusal_of
returns-in_err-refusal c = passed-on _ c.from_residual.ensures.1 ∙ refused _ _ _ _ _ _ c.in_err-refusal.ensures

-- the base is an image
image : (c : In_ok-refusal) → Sized c.args.pixels c.args.width c.args.height
image c = sized _ _ _ _ c.in_ok-refusal.ensures

pub returns-then-places-cells_above : goal.returns-then-places-cells_above
returns-then-places-cells_above c =
    build-short _ (image (goal.at.returns-then-places-cells_above c).In_ok-refusal)
    (rw c.cells_above.ensures at c.if-places-cells_above.true)

pub returns : goal.returns
returns c = build-long _ (image (goal.at.returns c).In_ok-refusal) (rw c.cells_above.ensures at c.if-places-cells_above.false)
