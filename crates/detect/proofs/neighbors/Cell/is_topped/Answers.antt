-- `detect::neighbors::Cell::is_topped` meets its contract: a cell that one of its window beats is beaten. Assumes nothing.
use Rattle.std.proofs.Common.{arith}
use Rattle.detect.proofs.Squares.{square-in, topped}
use Rattle.detect.proofs.neighbors.Cell.is_topped.Goals as goal

pub most_of_square-requires : goal.most_of_square-requires
most_of_square-requires c = square-in _ _ _ _ c.args.self.now.map.searchable c.args.self.now.inside (omega arith)

pub returns : goal.returns
returns c =
    λ e.
    topped _ _ _ _ c.args.self.now.map.searchable c.args.self.now.inside (omega arith) _ c.args.self.now.read _ c.most_of_square.ensures e
