use Rattle.std.proofs.Common.{◌-◌, ◌≤◌}
use Rattle.detect.specs.Internal.{place, PlacesSkipped}
use Rattle.detect.proofs.searched.SearchedMap.skip_runs.Given as goal

abbrev pub invariant-loop-x : goal.invariant-loop-x
invariant-loop-x l = PlacesSkipped l.self.cells.now l.self.search (place l.x-2 l.y) (place l.x l.y) × (l.x ≤ l.x1)

abbrev pub decreases-loop-x : goal.decreases-loop-x
decreases-loop-x l = l.x1 - l.x
