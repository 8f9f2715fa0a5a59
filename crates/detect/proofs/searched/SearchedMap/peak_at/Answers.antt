-- `detect::searched::SearchedMap::peak_at` meets its contract: the table has what the search would find. Assumes nothing.
use Rattle.std.proofs.Common.{arith}
use Rattle.detect.proofs.FirstPeaks.{next-taken, next-searched}
use Rattle.detect.proofs.searched.SearchedMap.peak_at.Goals as goal

pub returns-then-i-n : goal.returns-then-i-n
returns-then-i-n c =
    next-taken _ _ _ _ _ _ c.requires.peaks_listed c.requires.search_start c.if-i-n.true _ c.found_of.ensures

pub returns : goal.returns
returns c = next-searched _ _ _ _ _ _ (omega arith) _ c.next_peak.ensures
