-- `response::alone::alone` meets its contract: the samples picked are those of the cell's ring. Assumes nothing.
use mathlib.Core.Path.{refl}
use native.Mathlib.Omega.{arith}
use Rattle.response.specs.Internal.{SumsBounded}
use Rattle.response.proofs.Samples.{
  sample-lt,
  corner-small,
  cell-small,
  held_small,
  balanced,
  assembled,
  cross-lies,
  ring-found,
  cross-found,
}
use Rattle.response.proofs.alone.alone.Goals as goal
use Rattle.response.proofs.alone.alone.Goals.{After-ring_sums-ring}

pub overflow_mul-y : goal.overflow_mul-y
overflow_mul-y c = omega (arith, corner-small _ _ _ _ _ _ c.requires.0 _ _ c.requires.1)

pub overflow_add-y : goal.overflow_add-y
overflow_add-y c = omega (arith, corner-small _ _ _ _ _ _ c.requires.0 _ _ c.requires.1)

pub pick-requires : goal.pick-requires
pick-requires c = sample-lt _ _ _ _ _ _ c.requires.0 _ _ c.requires.1

pub ring_sums-ring-requires : goal.ring_sums-ring-requires
ring_sums-ring-requires c = c.pick.ensures.1

small : (c : After-ring_sums-ring) → SumsBounded 8 c.ring_sums-ring.result
small c = held_small _ _ c.pick.ensures.1 c.ring_sums-ring.ensures

pub overflow_add-ring : goal.overflow_add-ring
overflow_add-ring c = record { fits = omega (arith, (small (goal.at.overflow_add-ring c).After-ring_sums-ring).sr_small) }

pub overflow_sub-ring : goal.overflow_sub-ring
overflow_sub-ring c = omega (arith, (small (goal.at.overflow_sub-ring c).After-ring_sums-ring).dr_small)

pub overflow_mul-y-2 : goal.overflow_mul-y-2
overflow_mul-y-2 c =
    omega (arith, cell-small _ _ _ _ _ _ c.requires.0 _ _ c.requires.1)

pub overflow_add-y-2 : goal.overflow_add-y-2
overflow_add-y-2 c =
    omega (arith, cell-small _ _ _ _ _ _ c.requires.0 _ _ c.requires.1)

pub middle-requires : goal.middle-requires
middle-requires c =
    cross-lies _ _ _ _ _ _ c.requires.0 _ _ c.requires.1

pub returns : goal.returns
returns c =
    let ring = ring-found _ _ _ _ _ _ c.requires.0 _ _ c.requires.1 _ _ c.pick.ensures.0 c.ring_sums-ring.ensures in
    let cross = cross-found _ _ _ _ _ _ c.requires.0 _ _ c.requires.1 _ c.middle.ensures in
    assembled _ _ _ _ _ _ _ _ _ (balanced _ _ _ _ _ _ _ _ ring (small (goal.at.returns c).After-ring_sums-ring) refl cross) c.value.ensures
