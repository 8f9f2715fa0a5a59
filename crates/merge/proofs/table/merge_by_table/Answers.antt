-- `merge::table::merge_by_table` meets its contract: a refusal is passed on, or the corners are merged and the table cleared. Assumes
-- nothing.
use mathlib.Core.Path.{◌≡◌}
use Rattle.lists.proofs.Judged.{passed-on, judged-ok}
use Rattle.corner_list.specs.CornerList.{places_of}
use Rattle.corner_list.specs.Buffer.{contents}
use Rattle.merge_refusal.proofs.Judged.{judged-fits}
use Rattle.merge.specs.Merge.{refusal_of}
use Rattle.merge.proofs.Answer.{judged-own, by-table-refused, by-table-kept}
use Rattle.merge.proofs.table.merge_by_table.Goals as goal
use Rattle.merge.proofs.table.merge_by_table.Goals.{In_ok-refusal}

pub returns-in_err-refusal-clause-merged : goal.returns-in_err-refusal-clause-merged
returns-in_err-refusal-clause-merged c =
    rw (passed-on _ c.from_residual.ensures.1)
    (by-table-refused _ _ _ c.args.table.now _ (judged-own _ _ _ _ _ c.view.ensures c.in_err-refusal.ensures))

-- nothing refuses
free : (c : In_ok-refusal)
    → refusal_of c.args.radius (places_of (contents c.args.b.now)) c.args.count (contents c.args.b.now) ≡ 0
free c = (judged-ok _ _ _ (judged-own _ _ _ _ _ c.view.ensures c.in_ok-refusal.ensures)).0

pub merge_list-requires : goal.merge_list-requires
merge_list-requires c = judged-fits _ _ _ _ (free (goal.at.merge_list-requires c).In_ok-refusal)

pub returns-clause-merged : goal.returns-clause-merged
returns-clause-merged c =
    by-table-kept _ _ _ c.args.table.now (free (goal.at.returns-clause-merged c).In_ok-refusal) _ _ c.merge_list.ensures.left _
    c.merge_list.ensures.table_after
