-- From the test of each table and of its radius, in ring. Assumes nothing.
use Rattle.ring.proofs.Table.{ring_of-is}
use Rattle.ring.proofs.Places.{radius-is, ring_is}
use Rattle.demands.specs.AnyRing.{OwnRings}

pub own_rings : OwnRings
own_rings = record { are_rings = ring_of-is; radius_said = λ n e. radius-is n (ring_is n e) }
