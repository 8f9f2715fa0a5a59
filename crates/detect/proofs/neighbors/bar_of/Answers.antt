-- `detect::neighbors::bar_of` meets its contract. Assumes nothing.
use lib.Ieee.{of_bits}
use Rattle.detect.proofs.neighbors.bar_of.Goals as goal

pub returns-then-exact : goal.returns-then-exact
unfolding of_bits
returns-then-exact c = rw c.if-exact.true
