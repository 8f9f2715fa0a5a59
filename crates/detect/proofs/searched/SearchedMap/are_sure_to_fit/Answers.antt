-- `detect::searched::SearchedMap::are_sure_to_fit` meets its contract: there are no more peaks than cells that can be one. Assumes nothing.
use Rattle.std.proofs.Common.{le_trans, arith, leb-true}
use Rattle.detect.specs.Detect.{read_in}
use Rattle.detect.proofs.Choice.{peaks-at-most}
use Rattle.detect.proofs.searched.SearchedMap.are_sure_to_fit.Goals as goal

pub returns-then-cells_inside-free : goal.returns-then-cells_inside-free
returns-then-cells_inside-free c =
    λ e.
    let s = c.args.self.now.search in
    omega (
      arith,
      c.cells_inside.ensures,
      peaks-at-most (read_in c.args.self.now.cells.now s) s.w s.h s.border s.window s.least_neighbours,
    )

pub returns : goal.returns
returns c = λ e. le_trans c.cells_above.ensures (leb-true _ _ e)
