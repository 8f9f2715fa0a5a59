-- `detect::neighbors::Cell::is_overtopped` meets its contract: a cell that one of the four beside it beats is beaten in its window.
-- Assumes nothing.
use Rattle.std.proofs.Common.{refl, arith}
use Rattle.detect.proofs.Overtopping.{overtopped}
use Rattle.detect.proofs.neighbors.Cell.is_overtopped.Goals as goal

pub returns : goal.returns
returns c =
    overtopped c.args.self.now.map.cells.now c.args.self.now.map.search c.args.self.now.x c.args.self.now.y c.args.self.now.map.searchable
    c.args.self.now.inside (omega arith) c.args.self.now.value c.args.self.now.read _ refl
    _ c.most_beside.ensures _ c.bar_of.ensures _ c.is_larger.ensures
