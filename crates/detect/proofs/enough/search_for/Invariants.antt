use Rattle.detect.specs.Internal.{place}
use Rattle.detect.proofs.Counting.{Searching}
use Rattle.detect.proofs.enough.search_for.Given as goal

abbrev pub invariant-loop : goal.invariant-loop
invariant-loop l = Searching l.map.cells.now l.map.search l.rows l.counter (place l.x l.y)
