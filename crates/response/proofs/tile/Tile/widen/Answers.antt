-- `response::tile::widen` meets its contract: the rows passed hold their pixels. Assumes nothing.
use mathlib.Core.Path.{refl, sym, ◌∙◌}
use Prim.Native.Nat.{◌+◌, ◌*◌, ◌≤◌}
use native.Mathlib.Nat.{mul_comm}
use native.Mathlib.Omega.{arith}
use borrow.Author.Rules.{rules}
use lib.ListN.{length}
use Rattle.lists.proofs.Tab.{part_length}
use Rattle.response.specs.Internal.{tile_rows, large_tile}
use Rattle.response.proofs.Filling.{filled_none, row-after, written-copy, bytes-written}
use Rattle.response.proofs.Tiles.{tile-row}
use Rattle.response.proofs.tile.Tile.widen.Goals as goal
use Rattle.response.proofs.tile.Tile.widen.Given.{Over}
use Rattle.response.proofs.tile.Tile.widen.Goals.{In-loop-j}

pub loop-j-init : goal.loop-j-init
loop-j-init g c = (filled_none 0 _ tile_rows _ 0 _ 0 0 _ (λ i j p q u v. absurd (omega arith)), c.args.self.now.bytes)

-- the row's part of the image, and of the tile
row-lies : (g : Over) (c : In-loop-j g) → (c.args.y + c.loop-j.j) * c.args.w + c.args.x + c.args.n ≤ length c.args.img.now
row-lies g c =
    omega (arith, row-after c.args.w (c.args.y + c.loop-j.j) (c.args.y + c.args.m) (omega arith), c.requires.0, c.requires.1)

tile-lies : (g : Over) (c : In-loop-j g)
    → (c.loop-j.j * g.row.ROW + c.args.n ≤ length c.loop-j.places) × (c.loop-j.j * g.row.ROW + c.args.n ≤ large_tile)
tile-lies g c =
    let row = row-after g.row.ROW c.loop-j.j tile_rows (omega (arith, c.requires.5)) in (
      omega (arith, row, c.requires.4, c.args.self.now.long, mul_comm g.row.ROW tile_rows, c.loop-j.invariant.0.long),
      omega (arith, row, c.requires.4, c.args.self.now.narrow),
    )

pub overflow_mul-at : goal.overflow_mul-at
overflow_mul-at g c = omega (arith, tile-lies g (goal.at.overflow_mul-at g c).In-loop-j)

pub overflow_add-at : goal.overflow_add-at
overflow_add-at g c = omega (arith, tile-lies g (goal.at.overflow_add-at g c).In-loop-j)

pub widen_row-requires : goal.widen_row-requires
widen_row-requires g c =
    part_length _ c.args.n c.loop-j.places (tile-lies g (goal.at.widen_row-requires g c).In-loop-j).0
    ∙ sym (part_length _ c.args.n c.args.img.now (row-lies g (goal.at.widen_row-requires g c).In-loop-j))

pub loop-j-preserved : goal.loop-j-preserved
loop-j-preserved g c =
    let wr =
    written-copy (c.loop-j.j * g.row.ROW) c.args.n ((c.args.y + c.loop-j.j) * c.args.w + c.args.x) c.args.img.now c.loop-j.places _
    (tile-lies g (goal.at.loop-j-preserved g c).In-loop-j).0 (row-lies g (goal.at.loop-j-preserved g c).In-loop-j)
    c.widen_row.ensures in (
      tile-row c.args.img.now c.args.w g.row.ROW c.args.x c.args.y c.args.n c.loop-j.j _ _ _ _
          (omega (arith, c.requires.5, c.loop-j-test.true))
          (search rules) refl c.loop-j.invariant.0 wr,
      bytes-written _ _ _ _ _ wr c.loop-j.invariant.1 (λ i. (c.type_inv.img _).fits),
    )
