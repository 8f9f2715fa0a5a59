use Rattle.std.proofs.Common.{length}
use Rattle.corner_list.specs.Buffer.{contents, SameSlices}
use Rattle.detect.specs.Internal.{place, peaks_from}
use Rattle.detect.proofs.Writing.{Writing}
use Rattle.detect.proofs.searched.SearchedMap.add_peaks.Given as goal

abbrev pub invariant-loop-peak : goal.invariant-loop-peak
invariant-loop-peak l =
    SameSlices l.initial.list l.list
    × Writing l.self.cells.now l.self.search l.table l.n l.held l.i l.ties (contents l.initial.list) (contents l.list) (place l.x l.y)

abbrev pub decreases-loop-peak : goal.decreases-loop-peak
decreases-loop-peak l = length (peaks_from l.self.cells.now l.self.search (place l.x l.y))
