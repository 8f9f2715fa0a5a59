use Rattle.std.proofs.Common.{◌+◌, ◌-◌}
use lib.Ieee.{nan}
use Rattle.lists.proofs.Rows.{AnyRows}
use Rattle.detect.specs.Peaks.{beats}
use Rattle.detect.proofs.neighbors.Cell.is_local_max.Given as goal

abbrev pub invariant-loop-row : goal.invariant-loop-row
invariant-loop-row l =
    let r = l.self.map.search.window in
    AnyRows (beats l.exact l.self.value) l.self.map.cells.now l.self.map.search.w nan (l.self.x - r) (l.self.x + r + 1)
    (l.self.y - r) (l.self.y + r + 1) l.row
