use Rattle.std.proofs.Common.{◌-◌, length}
use Rattle.lists.proofs.Scan.{CountTo}
use Rattle.detect.specs.Peaks.{is_low}
use Rattle.detect.proofs.searching.count_low.Given as goal

abbrev pub invariant-loop-cell : goal.invariant-loop-cell
invariant-loop-cell l = CountTo (is_low l.t) l.cells l.n l.cell-index

abbrev pub decreases-loop-cell : goal.decreases-loop-cell
decreases-loop-cell l = length l.cells - l.cell-index
