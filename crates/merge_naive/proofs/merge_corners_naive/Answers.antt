-- `merge_naive::merge_corners_naive` meets its contract: a refusal is passed on, or the corners are merged. Assumes nothing.
use Rattle.lists.proofs.Judged.{passed-on, judged-ok}
use Rattle.merge_refusal.proofs.Judged.{judged-fits}
use Rattle.merge.proofs.Answer.{judged-own, known, leaves-refused, leaves_kept}
use Rattle.merge_naive.proofs.merge_corners_naive.Goals as goal

pub returns-in_err-refusal-clause-merged : goal.returns-in_err-refusal-clause-merged
returns-in_err-refusal-clause-merged c =
    rw (passed-on _ c.from_residual.ensures.1)
    (leaves-refused _ _ _ (known _ _ _ _) _ (judged-own _ _ _ _ _ c.view.ensures c.in_err-refusal.ensures))

pub merge_list-requires : goal.merge_list-requires
merge_list-requires c =
    judged-fits _ _ _ _ (judged-ok _ _ _ (judged-own _ _ _ _ _ c.view.ensures c.in_ok-refusal.ensures)).0

pub returns-clause-merged : goal.returns-clause-merged
returns-clause-merged c =
    leaves_kept _ _ _ (judged-ok _ _ _ (judged-own _ _ _ _ _ c.view.ensures c.in_ok-refusal.ensures)).0 _ _
    c.merge_list.ensures.left
