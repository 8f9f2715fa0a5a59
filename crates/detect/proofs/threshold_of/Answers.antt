-- `detect::threshold_of` meets its contract. Assumes nothing.
use Rattle.detect.proofs.threshold_of.Goals as goal

pub returns-then-exact : goal.returns-then-exact
returns-then-exact c = rw c.if-exact.true c.between_fifths.ensures

pub returns-else-exact : goal.returns-else-exact
returns-else-exact c = rw c.if-exact.false c.lifted.ensures
