-- `response::rows::block` meets its contract: the rows passed hold their responses. Assumes nothing.
use mathlib.Core.Path.{refl}
use Prim.Native.Nat.{ℕ, ◌+◌, ◌*◌, ◌<◌, ◌≤◌}
use native.Mathlib.Omega.{arith}
use borrow.Author.Rules.{rules}
use lib.ListN.{length}
use Rattle.lists.specs.Limits.{largest_side, largest_map}
use Rattle.float32.specs.Float32.{zero}
use Rattle.lists.proofs.Tab.{part_length}
use Rattle.ring.proofs.Table.{ring_of-is}
use Rattle.response.proofs.Filling.{filled_none, filled-to, written-tab}
use Rattle.response.proofs.Tiles.{
  radius-le,
  from-left,
  from-top,
  columns-in,
  rows-low,
  pixels-in,
  row_in,
  corner-small,
  pixels-few,
  block-step,
  tile-fits,
}
use Rattle.response.proofs.rows.block.Goals as goal
use Rattle.response.proofs.rows.block.Given.{Over}
use Rattle.response.proofs.rows.block.Goals.{Start}

-- what is asked says of the block's corner and of the places of a row
module _ (g : Over) (c : Start g) where
  corner : (c.args.f.x + c.args.i ≤ largest_side) × (c.args.f.y + c.args.j ≤ largest_side) × (c.args.f.radius ≤ 10)
  corner =
      let small = corner-small _ _ _ c.requires.placed.0 _ _ _ _ c.requires.placed.1 c.requires.n_nonzero.0 c.requires.n_nonzero.2 in
      (small.0, small.1, radius-le _ _ _ c.requires.placed.0)

  row : (k : ℕ) → k < c.args.m →
      ((c.args.j + k) * c.args.f.pw + c.args.i + c.args.n ≤ length c.args.map.now)
      × ((c.args.j + k) * c.args.f.pw + c.args.i + c.args.n ≤ largest_map)
  row k l = row_in _ _ _ c.requires.placed.0 _ _ _ _ c.requires.placed.1 c.requires.n_nonzero.0 c.requires.n_nonzero.2 k l

pub overflow_add-f : goal.overflow_add-f
overflow_add-f g c = omega (arith, corner g (goal.at.overflow_add-f g c).Start)

pub overflow_sub-f : goal.overflow_sub-f
overflow_sub-f g c =
    from-left _ _ _ c.requires.placed.0 _ _ _ _ c.requires.placed.1 c.requires.n_nonzero.0 c.requires.n_nonzero.2

pub overflow_add-f-2 : goal.overflow_add-f-2
overflow_add-f-2 g c = omega (arith, corner g (goal.at.overflow_add-f-2 g c).Start)

pub overflow_sub-f-2 : goal.overflow_sub-f-2
overflow_sub-f-2 g c =
    from-top _ _ _ c.requires.placed.0 _ _ _ _ c.requires.placed.1 c.requires.n_nonzero.0 c.requires.n_nonzero.2

pub overflow_add-n : goal.overflow_add-n
overflow_add-n g c = omega (arith, corner g (goal.at.overflow_add-n g c).Start, c.requires.n_nonzero.1)

pub overflow_add-n-2 : goal.overflow_add-n-2
overflow_add-n-2 g c = omega (arith, corner g (goal.at.overflow_add-n-2 g c).Start, c.requires.n_nonzero.1)

pub overflow_add-m : goal.overflow_add-m
overflow_add-m g c = omega (arith, corner g (goal.at.overflow_add-m g c).Start, c.requires.n_nonzero.3)

pub overflow_add-m-2 : goal.overflow_add-m-2
overflow_add-m-2 g c = omega (arith, corner g (goal.at.overflow_add-m-2 g c).Start, c.requires.n_nonzero.3)

pub widen-requires : goal.widen-requires
widen-requires g c =
    let radius = radius-le _ _ _ c.requires.placed.0 in (
      tile-fits _ _ c.args.tile.now.all c.args.tile.now.narrow,
      (
        columns-in _ _ _ c.requires.placed.0 _ _ _ _ c.requires.placed.1 c.requires.n_nonzero.0 c.requires.n_nonzero.2,
        pixels-in _ _ _ c.requires.placed.0 _ _ _ _ c.requires.placed.1 c.requires.n_nonzero.0 c.requires.n_nonzero.2,
        pixels-few _ _ _ c.requires.placed.0,
        rows-low _ _ _ c.requires.placed.0 _ _ _ _ c.requires.placed.1 c.requires.n_nonzero.0 c.requires.n_nonzero.2,
        omega (arith, radius, c.requires.n_nonzero.4),
        omega (arith, radius, c.requires.n_nonzero.3),
      ),
    )

pub loop-k-init : goal.loop-k-init
loop-k-init g c = (filled_none zero _ _ _ _ _ _ _ _ (λ i j p q u v. absurd (omega arith)), c.no_sums-sums.ensures)

pub overflow_add-r : goal.overflow_add-r
overflow_add-r g c = omega (arith, corner g (goal.at.overflow_add-r g c).Start, c.requires.n_nonzero.3)

pub eights-requires : goal.eights-requires
eights-requires g c = c.requires.n_nonzero.1

pub row_sums-requires : goal.row_sums-requires
row_sums-requires g c =
    let radius = radius-le _ _ _ c.requires.placed.0 in (
      tile-fits _ _ c.args.tile.now.all c.args.tile.now.narrow,
      (
        record {
          own_radius = c.requires.placed.0.own_radius;
          above = omega arith;
          below = omega (arith, radius, c.requires.n_nonzero.3);
          few = omega (arith, c.eights.ensures, c.requires.n_nonzero.1);
          across = omega (arith, radius, c.eights.ensures, c.requires.n_nonzero.4);
        },
        c.loop-k.invariant.1,
      ),
    )

pub overflow_add-at : goal.overflow_add-at
overflow_add-at g c = omega (arith, corner g (goal.at.overflow_add-at g c).Start, c.requires.n_nonzero.3, c.loop-k-test.true)

pub overflow_mul-at : goal.overflow_mul-at
overflow_mul-at g c = omega (arith, row g (goal.at.overflow_mul-at g c).Start c.loop-k.k c.loop-k-test.true)

pub overflow_add-at-in-loop-k : goal.overflow_add-at-in-loop-k
overflow_add-at-in-loop-k g c = omega (arith, row g (goal.at.overflow_add-at-in-loop-k g c).Start c.loop-k.k c.loop-k-test.true)

pub overflow_add-at-in-loop-k-2 : goal.overflow_add-at-in-loop-k-2
overflow_add-at-in-loop-k-2 g c = omega (arith, row g (goal.at.overflow_add-at-in-loop-k-2 g c).Start c.loop-k.k c.loop-k-test.true)

pub values-requires : goal.values-requires
values-requires g c =
    let lies = row g (goal.at.values-requires g c).Start c.loop-k.k c.loop-k-test.true in
    rw (part_length ((c.args.j + c.loop-k.k) * c.args.f.pw + c.args.i) c.args.n c.loop-k.map
    (omega (arith, lies, c.loop-k.invariant.0.long))) c.requires.n_nonzero.1

pub loop-k-preserved : goal.loop-k-preserved
loop-k-preserved g c =
    let radius = radius-le _ _ _ c.requires.placed.0 in
    let lies = row g (goal.at.loop-k-preserved g c).Start c.loop-k.k c.loop-k-test.true in (
      block-step c.args.img.now _ _ c.args.f c.args.i c.args.j c.args.n c.args.m (ring_of-is _) c.requires.placed.0.own_radius
          c.requires.placed.1 c.requires.n_nonzero.0
          c.loop-k.k c.loop-k-test.true
          (λ u v p q. c.widen.ensures.holds u v (omega (arith, radius, c.requires.n_nonzero.4))
          (omega (arith, radius, c.requires.n_nonzero.3))
          (omega arith) p (omega arith) q)
          _ _ _ _ _ _ (omega (arith, c.eights.ensures)) c.row_sums.ensures
          (written-tab zero _ _ _ c.args.n _ (omega (arith, lies, c.loop-k.invariant.0.long)) c.values.ensures) refl
          c.loop-k.invariant.0,
      c.row_sums.ensures.long,
    )

pub shape_of-map : goal.shape_of-map
shape_of-map g c = c.loop-k.invariant.0.long

pub returns : goal.returns
returns g c = filled-to zero _ _ _ _ _ _ _ _ _ _ _ refl (search rules) c.loop-k.invariant.0
