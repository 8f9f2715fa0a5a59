use Rattle.std.proofs.Common.{◌≡◌, false, take}
use lib.Ieee.{inf}
use Rattle.merge_grid.specs.Grid.{least_from}
use Rattle.merge_grid.proofs.least.Given as goal

abbrev pub invariant-loop-v : goal.invariant-loop-v
invariant-loop-v l = l.m ≡ least_from (inf false) (take l.v-index l.v-items)
