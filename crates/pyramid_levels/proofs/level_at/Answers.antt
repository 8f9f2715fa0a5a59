-- `pyramid_levels::level_at` meets its contract: the answer is by the number that refuses the level, or 0. Assumes nothing.
use native.Mathlib.Omega.{arith}
use mathlib.Core.Path.{◌≡◌, ◌∙◌}
use Rattle.lists.proofs.Judged.{judged-ok, judged-err, passed-on}
use Rattle.pyramid_levels.specs.Refusals.{ask, level_refusal_of}
use Rattle.pyramid_levels.specs.Level.{level_answer}
use Rattle.pyramid_levels.proofs.Cells.{cells-exact}
use Rattle.pyramid_levels.proofs.Refusals.{level-accepted, level-few}
use Rattle.pyramid_levels.proofs.Answers.{level-found}
use Rattle.pyramid_levels.proofs.level_at.Goals as goal
use Rattle.pyramid_levels.proofs.level_at.Goals.{In_ok-level_refusal}

pub returns-in_err-level_refusal : goal.returns-in_err-level_refusal
unfolding level_answer
returns-in_err-level_refusal c =
    level-found _ _ _ (passed-on _ c.from_residual.ensures.1 ∙ judged-err _ _ _ _ c.in_err-level_refusal.ensures)

-- nothing refuses the level
free : (c : In_ok-level_refusal) →
    level_refusal_of (ask c.args.pixels c.args.places c.args.width c.args.height c.args.num_levels c.args.min_size) c.args.k ≡ 0
free c = (judged-ok _ _ _ c.in_ok-level_refusal.ensures).0

pub overflow_shr-result : goal.overflow_shr-result
overflow_shr-result c = omega (arith, level-few _ _ (free (goal.at.overflow_shr-result c).In_ok-level_refusal))

pub overflow_shr-result-2 : goal.overflow_shr-result-2
overflow_shr-result-2 c = omega (arith, level-few _ _ (free (goal.at.overflow_shr-result-2 c).In_ok-level_refusal))

pub returns : goal.returns
unfolding level_answer
returns c =
    let f = free (goal.at.returns c).In_ok-level_refusal in
    let i = (level-accepted _ _ f).0.image in
    level-found _ _ _ (rw (f, c.cells_before.ensures ∙ cells-exact _ _ _ i.narrow i.low))
