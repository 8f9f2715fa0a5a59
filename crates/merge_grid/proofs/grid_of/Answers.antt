-- `merge_grid::grid_of` meets its contract, field by field. Assumes nothing.
use lib.Ieee.{of_bits}
use Rattle.corner_list.specs.CornerList.{slices}
use Rattle.merge_grid.proofs.Cells.{grid-is}
use Rattle.merge_grid.proofs.grid_of.Goals as goal

pub returns : goal.returns
unfolding of_bits
returns c strengths counts =
    grid-is (slices c.args.xs.now c.args.ys.now strengths counts) _ _ _ _ c.least.ensures c.least-2.ensures
