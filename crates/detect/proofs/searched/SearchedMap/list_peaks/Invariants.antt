use Rattle.detect.specs.Internal.{place}
use Rattle.detect.proofs.FirstPeaks.{Listing}
use Rattle.detect.proofs.searched.SearchedMap.list_peaks.Given as goal

abbrev pub invariant-loop-n : goal.invariant-loop-n
invariant-loop-n l = Listing l.self.cells.now l.self.search l.table l.n (place l.x l.y)
