-- `merge_grid::position_at` meets its contract, field by field. Assumes nothing.
use lib.Ieee.{of_bits, div}
use Rattle.merge_grid.proofs.position_at.Goals as goal

pub returns : goal.returns
unfolding of_bits div
returns c = rw (c.element_or.ensures, c.element_or-2.ensures)
