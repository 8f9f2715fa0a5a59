-- `merge_grid::least` meets its contract: m is the least of the numbers passed. Assumes nothing.
use Rattle.std.proofs.Common.{arith, refl}
use Rattle.std.proofs.lemmas.Grind.{common_steps}
use lib.Ieee.{of_bits}
use Rattle.merge_grid.proofs.Cells.{least_next}
use Rattle.merge_grid.proofs.least.Goals as goal

pub loop-v-init : goal.loop-v-init
unfolding of_bits
loop-v-init c = refl

pub loop-v-preserved : goal.loop-v-preserved
loop-v-preserved c = grind (arith, common_steps, least_next)
