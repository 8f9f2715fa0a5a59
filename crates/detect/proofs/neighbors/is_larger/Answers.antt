-- `detect::neighbors::is_larger` meets its contract. Assumes nothing.
use Rattle.detect.proofs.neighbors.is_larger.Goals as goal

pub returns-then-v-u : goal.returns-then-v-u
returns-then-v-u c = rw c.if-v-u.true

pub returns-else-v-u : goal.returns-else-v-u
returns-else-v-u c = rw c.if-v-u.false
