-- `finder::list_frame` meets its contract, by the laws of `Texts`. Assumes nothing.
use lib.Ieee.{of_bits}
use Rattle.lists.proofs.Judged.{passed-on}
use Rattle.finder.proofs.Texts.{frame-lists, frame-refused}
use Rattle.finder.proofs.list_frame.Goals as goal

pub returns-in_err-found : goal.returns-in_err-found
unfolding of_bits
returns-in_err-found c =
    rw (passed-on _ c.from_residual.ensures.1)
    (frame-refused _ _ _ c.params_of.ensures _ _ _ c.in_err-found.ensures.found)

pub returns : goal.returns
unfolding of_bits
returns c =
    frame-lists _ _ _ c.params_of.ensures _ _ _ c.in_ok-found.ensures.found _ c.view.ensures _ _ c.write_corners.ensures
