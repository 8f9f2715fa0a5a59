-- `CornerView::at` meets its contract, field by field. Assumes nothing.
use lib.Ieee.{of_bits, div}
use Rattle.corner_list.proofs.buffer.CornerView.at.Goals as goal

pub returns : goal.returns
unfolding of_bits div
returns c = rw (c.element_or.ensures, c.element_or-2.ensures, c.element_or-3.ensures, c.element_or-4.ensures)
