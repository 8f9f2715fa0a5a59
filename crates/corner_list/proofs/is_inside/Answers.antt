-- `corner_list::is_inside` meets its contract. Assumes nothing.
use Rattle.std.proofs.Common.{arith}
use lib.Ieee.{of_bits}
use Rattle.corner_list.specs.CornerList.{is_inside}
use Rattle.corner_list.proofs.is_inside.Goals as goal

pub returns-then-is_between : goal.returns-then-is_between
unfolding is_inside of_bits
returns-then-is_between c = grind arith

pub returns-else-is_between : goal.returns-else-is_between
unfolding is_inside of_bits
returns-else-is_between c = grind arith
