-- `detect::refusal` meets its contract: each return computes by the tests that led there. Assumes nothing.
use Rattle.std.proofs.Common.{sym, ◌∙◌}
use Rattle.lists.specs.Internal.{Sized}
use Rattle.lists.proofs.Judged.{passed-on}
use Rattle.image_size.proofs.Judged.{refused, sized, passed}
use Rattle.detect.specs.Detect.{conditions}
use Rattle.detect.proofs.refusal.Goals as goal
use Rattle.detect.proofs.refusal.Goals.{In_ok-refusal}

pub returns-in_err-refusal : goal.returns-in_err-refusal
unfolding conditions
returns-in_err-refusal c = passed-on _ c.from_residual.ensures.1 ∙ refused _ _ _ _ _ _ c.in_err-refusal.ensures

-- past 1 and 2
image : (c : In_ok-refusal) → Sized c.args.size c.args.w c.args.h
image c = sized _ _ _ _ c.in_ok-refusal.ensures

pub returns-then-is_outside : goal.returns-then-is_outside
unfolding conditions
returns-then-is_outside c =
    rw (passed _ _ _ _ (image (goal.at.returns-then-is_outside c).In_ok-refusal), sym c.is_outside.ensures ∙ c.if-is_outside.true)

pub returns : goal.returns
unfolding conditions
returns c = rw (passed _ _ _ _ (image (goal.at.returns c).In_ok-refusal), sym c.is_outside.ensures ∙ c.if-is_outside.false)
