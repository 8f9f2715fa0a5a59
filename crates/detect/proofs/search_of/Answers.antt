-- `detect::search_of` meets its contract, field by field. Assumes nothing.
use Rattle.detect.proofs.search_of.Goals as goal

pub returns : goal.returns
returns c = rw c.threshold_of.ensures
