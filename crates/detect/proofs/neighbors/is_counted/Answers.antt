-- `detect::neighbors::is_counted` meets its contract, case by case. Assumes nothing.
use lib.Ieee.{of_bits}
use Rattle.detect.proofs.neighbors.is_counted.Goals as goal

pub returns-in-Positive : goal.returns-in-Positive
unfolding of_bits
returns-in-Positive c = rw c.in-Positive.is

pub returns-in-AtLeast : goal.returns-in-AtLeast
returns-in-AtLeast c = rw c.in-AtLeast.is

pub returns-in-Equal : goal.returns-in-Equal
returns-in-Equal c = rw c.in-Equal.is
