-- `float32::lifted` meets its contract. Assumes nothing.
use lib.Ieee.{of_bits}
use Rattle.float32.proofs.Classes.{lift-above, lift-rest}
use Rattle.float32.proofs.lifted.Goals as goal

pub returns-then-x : goal.returns-then-x
unfolding of_bits
returns-then-x c = lift-above _ c.if-x.true

pub returns-else-x : goal.returns-else-x
unfolding of_bits
returns-else-x c = lift-rest _ c.if-x.false
