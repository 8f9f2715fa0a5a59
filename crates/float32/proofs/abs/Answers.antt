-- `float32::abs` meets its contract: one law of `abs` at each return. Assumes nothing.
use lib.Ieee.{of_bits}
use Rattle.float32.proofs.Magnitude.{abs-below, abs-above}
use Rattle.float32.proofs.abs.Goals as goal

pub returns-then-x : goal.returns-then-x
unfolding of_bits
returns-then-x c = abs-below _ c.well_formed.0.1 c.if-x.true

pub returns-else-x : goal.returns-else-x
unfolding of_bits
returns-else-x c = abs-above _ c.if-x.false
