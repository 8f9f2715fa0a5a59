-- `detect::neighbors::Cell::are_few` meets its contract: the centre, which is positive, is counted with the others. Assumes nothing.
use Rattle.detect.proofs.WindowRows.{positives-are, others-few, with-centre}
use Rattle.detect.proofs.neighbors.Cell.are_few.Goals as goal

pub returns : goal.returns
returns c =
    λ e.
    others-few _ _ (with-centre _ _ _ c.count_square.ensures c.requires.positive) _ _
    (positives-are _ _ _ _ _ c.args.self.now.map.searchable c.args.self.now.inside c.args.self.now.read) e
