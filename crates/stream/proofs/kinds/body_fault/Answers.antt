-- `stream::kinds::body_fault` meets its contract, arm by arm. Assumes nothing.
use mathlib.Core.Path.{ap, ◌∙◌}
use borrow.Author.Tests.{ne_eqb}
use Rattle.stream.specs.Stream.{body_length, body_fault}
use Rattle.stream.proofs.kinds.body_fault.Goals as goal

pub sides_fault-requires : goal.sides_fault-requires
unfolding body_length
sides_fault-requires c = c.requires ∙ ap body_length c.in-1.is

pub parameters_fault-requires : goal.parameters_fault-requires
unfolding body_length
parameters_fault-requires c = c.requires ∙ ap body_length c.in-2.is

pub returns-in-1 : goal.returns-in-1
unfolding body_fault
returns-in-1 c = rw c.in-1.is c.sides_fault.ensures

pub returns-in-2 : goal.returns-in-2
unfolding body_fault
returns-in-2 c = rw c.in-2.is c.parameters_fault.ensures

pub returns-in-3 : goal.returns-in-3
unfolding body_fault
returns-in-3 c = rw c.in-3.is c.padding_fault.ensures

pub returns-in_default : goal.returns-in_default
unfolding body_fault
returns-in_default c =
    rw (
      ne_eqb _ 1 c.in_default.in_default-own.rest.0.0.1,
      ne_eqb _ 2 c.in_default.in_default-own.rest.0.1,
      ne_eqb _ 3 c.in_default.in_default-own.rest.1,
    )
