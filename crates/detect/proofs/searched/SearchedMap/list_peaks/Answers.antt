-- `detect::searched::SearchedMap::list_peaks` meets its contract: what the search finds is the next in the table. Assumes nothing.
use Rattle.detect.proofs.FirstPeaks.{found-small, listing-first}
use Rattle.detect.proofs.searched.SearchedMap.list_peaks.Goals as goal

pub loop-n-init : goal.loop-n-init
loop-n-init c = listing-first _ _ _

pub number_of-requires : goal.number_of-requires
number_of-requires c = found-small _ _ c.args.self.now.searchable _ _ c.next_peak-found.ensures
