-- `merge::apart::merge_apart` meets its contract: a refusal is passed on, or the list is merged into the separate buffer. Assumes nothing.
use Rattle.lists.proofs.Judged.{passed-on, judged-ok}
use Rattle.merge.proofs.Separate.{apart-known, apart_both, judged-places}
use Rattle.merge.proofs.Answer.{leaves-refused, leaves_kept}
use Rattle.merge.proofs.apart.merge_apart.Goals as goal

pub returns-in_err-refusal_apart-clause-merged : goal.returns-in_err-refusal_apart-clause-merged
returns-in_err-refusal_apart-clause-merged c =
    rw (passed-on _ c.from_residual.ensures.1)
    (leaves-refused _ _ _ (apart-known _ _ _ _) _ (judged-places _ _ _ _ _ _ c.places.ensures c.in_err-refusal_apart.ensures))

pub merge_into-requires : goal.merge_into-requires
merge_into-requires c =
    (apart_both _ _ _ _ (judged-ok _ _ _ (judged-places _ _ _ _ _ _ c.places.ensures c.in_ok-refusal_apart.ensures)).0).1

pub returns-clause-merged : goal.returns-clause-merged
returns-clause-merged c =
    leaves_kept _ _ _ (judged-ok _ _ _ (judged-places _ _ _ _ _ _ c.places.ensures c.in_ok-refusal_apart.ensures)).0 _ _
    c.merge_into.ensures.left
