-- `patch_corners::localizing::lower` meets its contract: an `f32` holds every whole number up to 4,096. Assumes nothing.
use native.Mathlib.Omega.{arith}
use lib.Dec.{le→leb}
use lib.Ieee.{in_float}
use Rattle.patch_corners.proofs.localizing.lower.Goals as goal

pub int_to_float-result : goal.int_to_float-result
unfolding in_float
int_to_float-result c = omega (arith, le→leb)
