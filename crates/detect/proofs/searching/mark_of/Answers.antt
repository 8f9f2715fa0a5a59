-- `detect::searching::mark_of` meets its contract. Assumes nothing.
use Rattle.detect.proofs.searching.mark_of.Goals as goal

pub returns-then-v-t : goal.returns-then-v-t
returns-then-v-t c = rw c.if-v-t.true

pub returns-then-is_larger : goal.returns-then-is_larger
returns-then-is_larger c = rw (c.if-v-t.false, ← c.is_larger.ensures, c.if-is_larger.true)

pub returns-else-is_larger : goal.returns-else-is_larger
returns-else-is_larger c = rw (c.if-v-t.false, ← c.is_larger.ensures, c.if-is_larger.false)
