-- `sure_peak::exceeds` meets its contract. Assumes nothing.
use Rattle.sure_peak.proofs.Signed.{compared}
use Rattle.sure_peak.proofs.exceeds.Goals as goal

pub returns : goal.returns
returns c = rw (c.from.ensures, c.from-wide.ensures) (compared _ _ c.ranges.threshold.fits c.ranges.low)
