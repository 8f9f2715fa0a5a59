use Rattle.std.proofs.Common.{◌+◌, ◌-◌, ◌≤◌}
use Rattle.detect.specs.Internal.{place}
use Rattle.detect.proofs.FirstPeaks.{Counting}
use Rattle.detect.proofs.searched.SearchedMap.are_too_many.Given as goal

abbrev pub invariant-loop-peak : goal.invariant-loop-peak
invariant-loop-peak l = Counting l.self.cells.now l.self.search l.table l.n l.i (place l.x l.y) × (l.i ≤ l.free)

abbrev pub decreases-loop-peak : goal.decreases-loop-peak
decreases-loop-peak l = l.free + 1 - l.i
