-- `response::cell::cell_sums` meets its contract: the samples gathered are those of the cell's ring. Assumes nothing.
use mathlib.Core.Path.{refl}
use Prim.Native.Nat.{◌+◌, ◌*◌, ◌-◌}
use native.Mathlib.Omega.{arith}
use Rattle.response.specs.Internal.{Bytes, SumsBounded}
use Rattle.response.proofs.Samples.{
  sample-lt,
  pixels-small,
  corner-small,
  cell-small,
  gathered-bytes,
  held_small,
  balanced,
  cross-lies,
  ring-found,
  cross-found,
}
use Rattle.response.proofs.cell.cell_sums.Goals as goal
use Rattle.response.proofs.cell.cell_sums.Given.{Over}
use Rattle.response.proofs.cell.cell_sums.Goals.{After-gather, After-ring_sums-ring}

pub overflow_mul-base : goal.overflow_mul-base
overflow_mul-base g c = omega (arith, corner-small _ _ _ _ _ _ c.requires.0 _ _ c.requires.1)

pub overflow_add-base : goal.overflow_add-base
overflow_add-base g c = omega (arith, corner-small _ _ _ _ _ _ c.requires.0 _ _ c.requires.1)

pub gather-requires : goal.gather-requires
gather-requires g c =
    (sample-lt _ _ _ _ _ _ c.requires.0 _ _ c.requires.1, pixels-small _ _ _ _ _ _ c.requires.0 _ _ c.requires.1)

-- what is gathered are bytes, and so the sums of the ring are small
bytes : (g : Over) (c : After-gather g) → Bytes c.gather.result
bytes g c =
    gathered-bytes c.args.tile.now.places
    ((c.args.y - c.args.radius) * g.row.ROW + (c.args.x - c.args.radius)) c.args.off c.args.tile.now.bytes _
    c.gather.ensures

small : (g : Over) (c : After-ring_sums-ring g) → SumsBounded 8 c.ring_sums-ring.result
small g c =
    held_small _ _
    (gathered-bytes c.args.tile.now.places
    ((c.args.y - c.args.radius) * g.row.ROW + (c.args.x - c.args.radius)) c.args.off c.args.tile.now.bytes _
    c.gather.ensures)
    c.ring_sums-ring.ensures

pub ring_sums-ring-requires : goal.ring_sums-ring-requires
ring_sums-ring-requires g c = bytes g c

pub overflow_add-result : goal.overflow_add-result
overflow_add-result g c = record { fits = omega (arith, (small g (goal.at.overflow_add-result g c).After-ring_sums-ring).sr_small) }

pub overflow_sub-result : goal.overflow_sub-result
overflow_sub-result g c = omega (arith, (small g (goal.at.overflow_sub-result g c).After-ring_sums-ring).dr_small)

pub overflow_mul-y : goal.overflow_mul-y
overflow_mul-y g c =
    omega (arith, cell-small _ _ _ _ _ _ c.requires.0 _ _ c.requires.1)

pub overflow_add-y : goal.overflow_add-y
overflow_add-y g c =
    omega (arith, cell-small _ _ _ _ _ _ c.requires.0 _ _ c.requires.1)

pub cross-requires : goal.cross-requires
cross-requires g c =
    let lies = cross-lies _ _ _ _ _ _ c.requires.0 _ _ c.requires.1 in
    (c.args.tile.now.bytes, lies.0, lies.1, lies.2, lies.3, pixels-small _ _ _ _ _ _ c.requires.0 _ _ c.requires.1)

pub returns : goal.returns
returns g c =
    let ring = ring-found _ _ _ _ _ _ c.requires.0 _ _ c.requires.1 _ _ c.gather.ensures c.ring_sums-ring.ensures in
    balanced _ _ _ _ _ _ _ _ ring (small g (goal.at.returns g c).After-ring_sums-ring) refl
    (cross-found _ _ _ _ _ _ c.requires.0 _ _ c.requires.1 _ c.cross.ensures)
