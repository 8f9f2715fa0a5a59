-- `retouch::cells::sample_place` meets its contract: each arm is one place of the list. Assumes nothing.
use mathlib.Core.Path.{◌≡◌, ap}
use native.Mathlib.Omega.{arith}
use borrow.Author.Rules.{rules}
use Rattle.ring.specs.Ring.{ring_of}
use Rattle.ring.specs.Offsets.{offsets_of}
use Rattle.ring.specs.declared.RingOffsets.{RingOffsets}
use Rattle.ring.proofs.Table.{ring_of-is}
use Rattle.retouch.proofs.Sampling.{ring-place, cross-place}
use Rattle.retouch.proofs.cells.sample_place.Goals as goal
use Rattle.retouch.proofs.cells.sample_place.Goals.{After-ring_offsets-t}

-- the ring's table, as the code holds it
table : (c : After-ring_offsets-t) → c.ring_offsets-t.result ≡ offsets_of (ring_of c.args.ring)
table c = c.ring_offsets-t.ensures

radius : (c : After-ring_offsets-t) → c.ring_offsets-t.result.radius ≡ (ring_of c.args.ring).radius
radius c = ap (λ (o : RingOffsets). o.radius) (table c)

pub overflow_sub-result : goal.overflow_sub-result
overflow_sub-result c = omega (arith, radius (goal.at.overflow_sub-result c).After-ring_offsets-t, c.requires)

pub overflow_sub-result-in-20 : goal.overflow_sub-result-in-20
overflow_sub-result-in-20 c = omega (arith, radius (goal.at.overflow_sub-result-in-20 c).After-ring_offsets-t, c.requires)

pub returns-in-16 : goal.returns-in-16
returns-in-16 c = rw (radius (goal.at.returns-in-16 c).After-ring_offsets-t) (cross-place _ (ring_of-is _) _ 0 c.in-16.is)

pub returns-in-17 : goal.returns-in-17
returns-in-17 c = rw (radius (goal.at.returns-in-17 c).After-ring_offsets-t) (cross-place _ (ring_of-is _) _ 1 c.in-17.is)

pub returns-in-18 : goal.returns-in-18
returns-in-18 c = rw (radius (goal.at.returns-in-18 c).After-ring_offsets-t) (cross-place _ (ring_of-is _) _ 2 c.in-18.is)

pub returns-in-19 : goal.returns-in-19
returns-in-19 c = rw (radius (goal.at.returns-in-19 c).After-ring_offsets-t) (cross-place _ (ring_of-is _) _ 3 c.in-19.is)

pub returns-in-20 : goal.returns-in-20
returns-in-20 c = rw (radius (goal.at.returns-in-20 c).After-ring_offsets-t) (cross-place _ (ring_of-is _) _ 4 c.in-20.is)

pub returns-in_default : goal.returns-in_default
returns-in_default c =
    rw (c.from.ensures, c.from-in_default.ensures, table (goal.at.returns-in_default c).After-ring_offsets-t)
    (ring-place _ (ring_of-is _) _ (search rules))
