use Rattle.std.proofs.Common.{◌+◌, ◌-◌, ◌*◌}
use Rattle.detect.specs.Internal.{place, LowRows}
use Rattle.detect.proofs.Scanning.{Passed}
use Rattle.detect.proofs.searched.SearchedMap.next_peak.Given as goal

abbrev pub invariant-loop-y : goal.invariant-loop-y
invariant-loop-y l =
    Passed l.self.cells.now l.self.search (place l.x-2 l.y-2) (place l.x l.y)
    × LowRows l.self.cells.now l.self.search l.low (l.y + l.self.search.window)

abbrev pub decreases-loop-y : goal.decreases-loop-y
decreases-loop-y l = (l.y1 - l.y) * 4097 + (l.x1 - l.x)
