-- `detect::neighbors::most_of_square` meets its contract: the greatest of the five greatest is one of the cells. Assumes nothing.
use Rattle.std.proofs.Common.{arith}
use Rattle.detect.proofs.Squares.{of-square, greater-square}
use Rattle.detect.proofs.neighbors.most_of_square.Goals as goal

pub returns : goal.returns
returns c =
    greater-square _ _ _ _ _ _ c.greater_of-2.ensures
    (greater-square _ _ _ _ _ _ c.greater_of.ensures
    (greater-square _ _ _ _ _ _ c.greater_of-p.ensures
    (of-square _ _ _ 0 (omega arith) _ _ c.most_of_five.ensures (omega arith))
    (of-square _ _ _ 1 (omega arith) _ _ c.most_of_five-2.ensures (omega arith)))
    (greater-square _ _ _ _ _ _ c.greater_of-q.ensures
    (of-square _ _ _ 3 (omega arith) _ _ c.most_of_five-3.ensures (omega arith))
    (of-square _ _ _ 4 (omega arith) _ _ c.most_of_five-4.ensures (omega arith))))
    (of-square _ _ _ 2 (omega arith) _ _ c.most_of_five-5.ensures (omega arith))
