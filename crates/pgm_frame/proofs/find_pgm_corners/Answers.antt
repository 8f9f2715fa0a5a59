-- `pgm_frame::find_pgm_corners` meets its contract: the upload is refused, or its pixels have the frame's promise. Assumes nothing.
use Rattle.lists.proofs.Judged.{passed-on}
use Rattle.pgm_frame.proofs.Photographs.{photograph-refused, photograph-found}
use Rattle.pgm_frame.proofs.find_pgm_corners.Goals as goal

pub returns-in_err-image-clause-found : goal.returns-in_err-image-clause-found
returns-in_err-image-clause-found c =
    rw (passed-on _ c.from_residual.ensures.1) (photograph-refused _ _ _ _ _ c.in_err-image.ensures)

pub returns-clause-found : goal.returns-clause-found
returns-clause-found c =
    photograph-found _ _ _ _ _ c.in_ok-image.ensures _ c.pgm_pixels-pixels.ensures _ _ c.find_corners.ensures.found
