-- `detect::fifths::between_fifths` meets its contract: an `f32` holds every whole number up to 20,411. Assumes nothing.
use Rattle.std.proofs.Common.{◌≤◌, arith, le→leb}
use lib.Ieee.{in_float, of_bits}
use Rattle.float32.proofs.Classes.{lift-plus}
use Rattle.detect.specs.Fifths.{between_fifths}
use Rattle.detect.proofs.Thresholds.{fifths-few}
use Rattle.detect.proofs.fifths.between_fifths.Goals as goal
use Rattle.detect.proofs.fifths.between_fifths.Goals.{After-fifths_under-n}

few : (c : After-fifths_under-n) → c.fifths_under-n.result ≤ 10205
few c = rw c.fifths_under-n.ensures (fifths-few _ (lift-plus c.args.threshold))

pub overflow_mul-result : goal.overflow_mul-result
overflow_mul-result c = record { fits = omega (arith, few c) }

pub overflow_add-result : goal.overflow_add-result
overflow_add-result c = record { fits = omega (arith, few c) }

pub int_to_float-result : goal.int_to_float-result
unfolding in_float
int_to_float-result c = omega (arith, le→leb, few (goal.at.int_to_float-result c).After-fifths_under-n)

pub returns : goal.returns
unfolding of_bits between_fifths
returns c = rw c.fifths_under-n.ensures
