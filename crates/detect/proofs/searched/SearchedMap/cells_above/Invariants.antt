use Rattle.detect.proofs.Above.{HighRows}
use Rattle.detect.proofs.searched.SearchedMap.cells_above.Given as goal

abbrev pub invariant-loop-y : goal.invariant-loop-y
invariant-loop-y l = HighRows l.self.cells.now l.self.search l.n l.y
