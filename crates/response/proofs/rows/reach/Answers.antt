-- `response::rows::reach` meets its contract: where the computed cells begin and end. Assumes nothing.
use Rattle.response.proofs.Edges.{stretched}
use Rattle.response.proofs.rows.reach.Goals as goal

pub returns : goal.returns
returns c =
    stretched _ _ _ _ _ _ _ _ _ _ _ _ _ c.saturating_sub.ensures c.max.ensures c.min-from.ensures
    c.saturating_sub-2.ensures c.saturating_sub-3.ensures c.saturating_sub-4.ensures
    c.min.ensures c.max-to.ensures
