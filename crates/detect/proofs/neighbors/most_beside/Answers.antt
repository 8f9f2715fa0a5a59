-- `detect::neighbors::most_beside` meets its contract: the greatest of four cells is one of them. Assumes nothing.
use Rattle.detect.proofs.Overtopping.{beside-most}
use Rattle.detect.proofs.neighbors.most_beside.Goals as goal

pub returns : goal.returns
returns c =
    beside-most _ _ _ _ _ _ c.greater_of-p.ensures c.greater_of-q.ensures c.greater_of.ensures
