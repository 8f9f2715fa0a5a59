-- `response::beside` meets its contract. Assumes nothing.
use borrow.Author.Tests.{eq-eqb, ne_eqb}
use Rattle.response.proofs.beside.Goals as goal

pub returns-then-other-eq0 : goal.returns-then-other-eq0
returns-then-other-eq0 c = rw (eq-eqb _ _ c.if-other-eq0.true)

pub returns-else-other-eq0 : goal.returns-else-other-eq0
returns-else-other-eq0 c = rw (ne_eqb _ _ c.if-other-eq0.false)
