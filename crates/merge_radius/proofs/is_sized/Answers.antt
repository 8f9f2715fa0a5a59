-- `merge_radius::is_sized` meets its contract. Assumes nothing.
use lib.Ieee.{of_bits}
use Rattle.merge_radius.specs.MergeRadius.{is_sized}
use Rattle.merge_radius.proofs.is_sized.Goals as goal

pub returns : goal.returns
unfolding is_sized of_bits
returns c = c.is_between.ensures
