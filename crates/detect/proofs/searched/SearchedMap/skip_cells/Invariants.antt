use Rattle.detect.specs.Internal.{place, PlacesSkipped}
use Rattle.detect.proofs.searched.SearchedMap.skip_cells.Given as goal

abbrev pub invariant-loop-column : goal.invariant-loop-column
invariant-loop-column l = PlacesSkipped l.self.cells.now l.self.search (place l.x l.y) (place l.column l.y)
