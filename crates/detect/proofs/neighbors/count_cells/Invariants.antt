use Rattle.lists.proofs.Scan.{CountTo}
use Rattle.detect.specs.Internal.{is_counted}
use Rattle.detect.proofs.neighbors.count_cells.Given as goal

abbrev pub invariant-loop-u : goal.invariant-loop-u
invariant-loop-u l = CountTo (is_counted l.asked l.v) l.cells l.n l.u-index
