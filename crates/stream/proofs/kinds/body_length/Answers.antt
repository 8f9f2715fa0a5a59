-- `stream::kinds::body_length` meets its contract, arm by arm. Assumes nothing.
use borrow.Author.Tests.{ne_eqb}
use Rattle.stream.specs.Stream.{body_length}
use Rattle.stream.proofs.kinds.body_length.Goals as goal

pub returns-in-1 : goal.returns-in-1
unfolding body_length
returns-in-1 c = rw c.in-1.is

pub returns-in-2 : goal.returns-in-2
unfolding body_length
returns-in-2 c = rw c.in-2.is

pub returns-in-3 : goal.returns-in-3
unfolding body_length
returns-in-3 c = rw c.in-3.is

pub returns-in_default : goal.returns-in_default
unfolding body_length
returns-in_default c =
    rw (
      ne_eqb _ 1 c.in_default.in_default-own.rest.0.0.1,
      ne_eqb _ 2 c.in_default.in_default-own.rest.0.1,
      ne_eqb _ 3 c.in_default.in_default-own.rest.1,
    )
