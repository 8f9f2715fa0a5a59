-- `merge::merge_corners_simple` meets its contract. Assumes nothing.
use Rattle.merge.proofs.Answer.{merges-whole}
use Rattle.merge.proofs.merge_corners_simple.Goals as goal

pub returns-clause-merged : goal.returns-clause-merged
returns-clause-merged c = merges-whole _ _ _ _ _ c.merge_within.ensures.merged
