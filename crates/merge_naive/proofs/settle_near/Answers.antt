-- `merge_naive::settle_near` meets its contract: put in the place that it takes, and counted. Assumes nothing.
use Rattle.std.proofs.Common.{arith}
use Rattle.corner_list.specs.CornerList.{corner_at}
use Rattle.corner_list.specs.Buffer.{contents}
use Rattle.merge_settle.specs.Internal.{FirstPasses}
use Rattle.merge_settle.proofs.Settle.{settles-by, counted-all}
use Rattle.merge_naive.specs.MergeNaive.{near_by}
use Rattle.merge_naive.proofs.Naive.{found-viewed}
use Rattle.merge_naive.proofs.settle_near.Goals as goal
use Rattle.merge_naive.proofs.settle_near.Goals.{After-first_near-joined}

found : (c : After-first_near-joined)
    → FirstPasses (λ m. near_by c.args.square c.args.c (corner_at (contents c.args.b.now) m)) c.args.k
    c.first_near-joined.result
found c = found-viewed _ _ _ _ c.args.c _ _ c.view-v.ensures c.from.ensures c.first_near-joined.ensures

pub returns-clause-settled : goal.returns-clause-settled
returns-clause-settled c =
    let counted = counted-all c.args.k c.settle_corner-at.result _ c.count_with.ensures (omega (arith, c.requires, c.well_formed)) in
    settles-by _ _ _ _ c.requires _ (found (goal.at.returns-clause-settled c).After-first_near-joined) _
    c.settle_corner-at.ensures.place _ counted _ c.settle_corner-at.ensures.put
