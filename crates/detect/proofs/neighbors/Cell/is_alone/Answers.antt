-- `detect::neighbors::Cell::is_alone` meets its contract: the centre, which is no NaN, is counted alone. Assumes nothing.
use Rattle.std.proofs.Common.{refl}
use Rattle.detect.specs.Internal.{place}
use Rattle.detect.proofs.WindowRows.{others-none, with-centre}
use Rattle.detect.proofs.Ties.{test-alone}
use Rattle.detect.proofs.neighbors.Cell.is_alone.Goals as goal

pub returns : goal.returns
returns c =
    λ e.
    test-alone c.args.self.now.map.cells.now c.args.self.now.map.search (place c.args.self.now.x c.args.self.now.y) _ c.args.self.now.read
    _ refl (others-none _ _ (with-centre _ _ _ c.count_square.ensures c.if-not-self.false) e)
