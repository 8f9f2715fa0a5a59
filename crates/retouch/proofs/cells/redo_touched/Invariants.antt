use Rattle.ring.specs.Ring.{ring_of}
use Rattle.retouch.proofs.Passing.{Passed}
use Rattle.retouch.proofs.cells.redo_touched.Given as goal

abbrev pub invariant-loop-k : goal.invariant-loop-k
invariant-loop-k l = Passed l.img l.w l.h (ring_of l.ring) (record { x = l.x; y = l.y }) l.initial.map l.k l.map l.n
