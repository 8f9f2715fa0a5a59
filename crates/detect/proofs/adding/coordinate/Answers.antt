-- `detect::adding::coordinate` meets its contract: an `f32` holds every whole number up to 4,096. Assumes nothing.
use Rattle.std.proofs.Common.{arith, le→leb}
use lib.Ieee.{in_float}
use Rattle.detect.proofs.adding.coordinate.Goals as goal

pub int_to_float-result : goal.int_to_float-result
unfolding in_float
int_to_float-result c = omega (arith, le→leb)
