use Rattle.ring.specs.Ring.{ring_of}
use Rattle.response.specs.Internal.{CellsSummed}
use Rattle.response.proofs.runs.sums.Given as goal

abbrev pub invariant-loop-i : goal.invariant-loop-i
invariant-loop-i g l = CellsSummed l.tile.places g.row.ROW (ring_of g.row.RADIUS) g.row.RADIUS l.y l.i l.row
