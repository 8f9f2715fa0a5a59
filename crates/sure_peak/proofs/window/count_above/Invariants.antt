use Rattle.std.proofs.Common.{◌-◌, length}
use lib.Signed.{lt_z}
use Rattle.lists.proofs.Scan.{CountTo}
use Rattle.sure_peak.proofs.window.count_above.Given as goal

abbrev pub invariant-loop-cell : goal.invariant-loop-cell
invariant-loop-cell l = CountTo (lt_z l.v) l.cells l.n l.cell-index

abbrev pub decreases-loop-cell : goal.decreases-loop-cell
decreases-loop-cell l = length l.cells - l.cell-index
