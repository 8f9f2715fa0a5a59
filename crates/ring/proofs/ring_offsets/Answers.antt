-- `ring::ring_offsets` meets its contract: each arm's constants are the table that its radius selects. Assumes nothing.
use Rattle.ring.specs.Ring.{ring5, ring10}
use Rattle.ring.proofs.Places.{selects-first, selects-second}
use Rattle.ring.proofs.ring_offsets.Goals as goal

pub returns-in-10 : goal.returns-in-10
unfolding ring10
returns-in-10 c = rw (selects-second _ c.in-10.is)

pub returns-in_default : goal.returns-in_default
unfolding ring5
returns-in_default c = rw (selects-first _ c.in_default.in_default-own.rest.1)
