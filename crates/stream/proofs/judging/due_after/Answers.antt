-- `stream::judging::due_after` meets its contract, arm by arm. Assumes nothing.
use borrow.Author.Tests.{eq-eqb, ne_eqb}
use Rattle.stream.specs.Internal.{due}
use Rattle.stream.proofs.judging.due_after.Goals as goal

pub returns-in-0 : goal.returns-in-0
unfolding due
returns-in-0 c = rw c.in-0.is

pub returns-in-1 : goal.returns-in-1
unfolding due
returns-in-1 c = rw c.in-1.is

pub returns-then-left-eq0 : goal.returns-then-left-eq0
unfolding due
returns-then-left-eq0 c =
    rw (ne_eqb _ 0 c.in_default.in_default-own.rest.0.1, ne_eqb _ 1 c.in_default.in_default-own.rest.1, eq-eqb _ 0 c.if-left-eq0.true)

pub returns-else-left-eq0 : goal.returns-else-left-eq0
unfolding due
returns-else-left-eq0 c =
    rw (ne_eqb _ 0 c.in_default.in_default-own.rest.0.1, ne_eqb _ 1 c.in_default.in_default-own.rest.1, ne_eqb _ 0 c.if-left-eq0.false)
