-- `RoiContext::compute_roi` meets its contract: refused, or a box if the seed has one. Assumes nothing.
use Rattle.lists.proofs.Judged.{judged-ok, passed-on}
use Rattle.multiscale.proofs.Contexts.{sound}
use Rattle.multiscale.proofs.Promised.{refused, answered}
use Rattle.multiscale.proofs.RoiContext.compute_roi.Goals as goal

pub returns-in_err-refusal : goal.returns-in_err-refusal
returns-in_err-refusal c = rw (passed-on _ c.from_residual.ensures.1) (refused _ _ _ c.in_err-refusal.ensures)

pub invariant_of-sound : goal.invariant_of-sound
invariant_of-sound c = record { sound = sound c.args.self c.args.c (judged-ok _ _ _ c.in_ok-refusal.ensures).0 }

pub returns : goal.returns
returns c = rw c.box_of.ensures (answered _ _ (judged-ok _ _ _ c.in_ok-refusal.ensures).0)
