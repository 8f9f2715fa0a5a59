-- `detect::neighbors::most_of_five` meets its contract: the greatest of five cells is one of them. Assumes nothing.
use Rattle.std.proofs.Common.{arith}
use Rattle.detect.proofs.Squares.{of-first, of-five, greater-five}
use Rattle.detect.proofs.neighbors.most_of_five.Goals as goal

pub returns : goal.returns
returns c =
    greater-five _ _ _ _ _ c.greater_of-2.ensures
    (greater-five _ _ _ _ _ c.greater_of.ensures
    (greater-five _ _ _ _ _ c.greater_of-p.ensures (of-first _ _) (of-five _ _ 1 (omega arith)))
    (greater-five _ _ _ _ _ c.greater_of-q.ensures (of-five _ _ 3 (omega arith)) (of-five _ _ 4 (omega arith))))
    (of-five _ _ 2 (omega arith))
