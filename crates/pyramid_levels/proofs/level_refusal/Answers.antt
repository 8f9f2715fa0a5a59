-- `pyramid_levels::level_refusal` meets its contract: a level that is there is refused as building is, and another one by its number.
-- Assumes nothing.
use mathlib.Core.Path.{ap, ◌∙◌}
use Rattle.lists.specs.Refusals.{verdict}
use Rattle.lists.proofs.Judged.{passed-on}
use Rattle.image_size.proofs.Judged.{refused, sized}
use Rattle.pyramid_levels.specs.Refusals.{level_refusal_of}
use Rattle.pyramid_levels.proofs.Refusals.{level-there, level-absent}
use Rattle.pyramid_levels.proofs.level_refusal.Goals as goal

pub returns-then-k-level_count : goal.returns-then-k-level_count
returns-then-k-level_count c =
    c.build_refusal.ensures ∙ ap verdict (level-there _ _ (rw c.level_count.ensures at c.if-k-level_count.true))

pub returns-in_err-refusal : goal.returns-in_err-refusal
unfolding level_refusal_of
returns-in_err-refusal c = passed-on _ c.from_residual.ensures.1 ∙ refused _ _ _ _ _ _ c.in_err-refusal.ensures

pub returns : goal.returns
returns c =
    level-absent _ _ (sized _ _ _ _ c.in_ok-refusal.ensures) (rw c.level_count.ensures at c.if-k-level_count.false)
