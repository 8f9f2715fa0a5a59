-- `merge::apart::refusal_apart` meets its contract: the judgement of the merge in place, then that of the separate buffer. Assumes nothing.
use mathlib.Core.Path.{◌≡◌, refl}
use Rattle.lists.proofs.Judged.{passed-on, judged-ok}
use Rattle.corner_list.specs.CornerList.{places_of}
use Rattle.corner_list.specs.Buffer.{seen}
use Rattle.merge.specs.Merge.{refusal_of}
use Rattle.merge.proofs.Answer.{judged-own}
use Rattle.merge.proofs.Separate.{apart-refused, apart-as-own, apart-crowded}
use Rattle.merge.proofs.apart.refusal_apart.Goals as goal
use Rattle.merge.proofs.apart.refusal_apart.Goals.{In_ok-refusal}

pub returns-in_err-refusal : goal.returns-in_err-refusal
returns-in_err-refusal c =
    rw (passed-on _ c.from_residual.ensures.1) (apart-refused _ _ _ _ _ (judged-own _ _ _ _ _ refl c.in_err-refusal.ensures))

-- nothing refuses the merge in place
free : (c : In_ok-refusal)
    → refusal_of c.args.radius (places_of (seen c.args.list)) c.args.count (seen c.args.list) ≡ 0
free c = (judged-ok _ _ _ (judged-own _ _ _ _ _ refl c.in_ok-refusal.ensures)).0

pub returns-then-places-count : goal.returns-then-places-count
returns-then-places-count c =
    rw (apart-crowded _ _ _ _ c.if-places-count.true, free (goal.at.returns-then-places-count c).In_ok-refusal)

pub returns : goal.returns
returns c = rw (apart-as-own _ _ _ _ c.if-places-count.false, free (goal.at.returns c).In_ok-refusal)
