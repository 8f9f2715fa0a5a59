use Rattle.std.proofs.Common.{◌-◌, length}
use Rattle.detect.specs.Internal.{Below}
use Rattle.detect.proofs.searching.blocks_below.Given as goal

abbrev pub invariant-loop-i : goal.invariant-loop-i
invariant-loop-i l = Below l.cells l.t l.i

abbrev pub decreases-loop-i : goal.decreases-loop-i
decreases-loop-i l = length l.cells - l.i
