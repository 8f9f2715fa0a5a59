-- `merge_radius::is_off` meets its contract. Assumes nothing.
use Rattle.std.proofs.Common.{arith}
use lib.Ieee.{of_bits}
use Rattle.merge_radius.specs.MergeRadius.{is_off}
use Rattle.merge_radius.proofs.is_off.Goals as goal

pub returns-then-not-is_finite : goal.returns-then-not-is_finite
unfolding is_off of_bits
returns-then-not-is_finite c = grind arith

pub returns-else-not-is_finite : goal.returns-else-not-is_finite
unfolding is_off of_bits
returns-else-not-is_finite c = grind arith
