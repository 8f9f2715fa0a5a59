-- `response::rows::single` meets its contract. Assumes nothing.
use Prim.Native.Nat.{◌+◌, ◌*◌, ◌<◌}
use native.Mathlib.Omega.{arith}
use lib.ListN.{length}
use Rattle.lists.specs.Limits.{largest_map}
use Rattle.ring.proofs.Table.{ring_of-is}
use Rattle.response.proofs.Filling.{row-after}
use Rattle.response.proofs.Tiles.{radius-le, map-small, single-filled}
use Rattle.response.proofs.rows.single.Goals as goal
use Rattle.response.proofs.rows.single.Goals.{Start}

-- where the cell lies in the map
place : (c : Start) →
    (c.args.j * c.args.f.pw + c.args.i < length c.args.map.now) × (c.args.j * c.args.f.pw + c.args.i < largest_map)
place c =
    let row = row-after c.args.f.pw c.args.j c.args.f.ph (omega (arith, c.requires.1.down)) in
    (omega (arith, row, c.requires.1.across, c.requires.0.enough), omega (arith, row, c.requires.1.across, map-small _ _ _ c.requires.0))

pub overflow_cast-f : goal.overflow_cast-f
overflow_cast-f c = omega (arith, radius-le _ _ _ c.requires.0)

pub alone-requires : goal.alone-requires
alone-requires c = (
  record {
    image = c.requires.0.image;
    is-ring = ring_of-is _;
    own_radius = c.requires.0.own_radius;
    offsets = c.offsets_in-off.ensures;
  },
  c.requires.1.inner c.args.i c.args.j (omega arith) (omega arith) (omega arith) (omega arith),
)

pub overflow_mul-map : goal.overflow_mul-map
overflow_mul-map c = omega (arith, place (goal.at.overflow_mul-map c).Start)

pub overflow_add-map : goal.overflow_add-map
overflow_add-map c = omega (arith, place (goal.at.overflow_add-map c).Start)

pub offset_bounds-map-j : goal.offset_bounds-map-j
offset_bounds-map-j c = omega (arith, place (goal.at.offset_bounds-map-j c).Start)

pub bounds-map-j : goal.bounds-map-j
bounds-map-j c = (place (goal.at.bounds-map-j c).Start).0

pub returns : goal.returns
returns c =
    single-filled c.args.img.now c.args.f _ _ _ _ c.requires.0.own_radius c.requires.1 c.alone.ensures
    c.requires.0.enough
