-- `retention::item::stays` meets its contract, arm by arm. Assumes nothing.
use borrow.Author.Tests.{ne_eqb}
use Rattle.retention.specs.Retention.{stays}
use Rattle.retention.proofs.item.stays.Goals as goal

pub returns-in-1 : goal.returns-in-1
unfolding stays
returns-in-1 c = rw c.in-1.is

pub returns-in-2 : goal.returns-in-2
unfolding stays
returns-in-2 c = rw c.in-2.is

pub returns-in_default : goal.returns-in_default
unfolding stays
returns-in_default c = rw (ne_eqb _ 1 c.in_default.in_default-own.rest.0.1, ne_eqb _ 2 c.in_default.in_default-own.rest.1)
