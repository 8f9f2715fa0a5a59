-- Positions whose corners join: how far apart their cell numbers are. Assumes nothing.
use Prim.Native.Nat.{ℕ, ◌+◌, ◌≤◌}
use mathlib.Core.Path.{◌≡◌}
use mathlib.Core.Bool.{true}
use lib.Dec.{leb}
use borrow.Author.Tests.{leb-true}
use Rattle.lists.proofs.Tests.{and_parts}
use Rattle.merge_grid.specs.declared.Grid.{Grid}
use Rattle.merge_grid.specs.declared.Position.{Position}
use Rattle.merge_grid.specs.Grid.{column_of, row_of, within_one, near, adjacent_cells, meets}

-- two numbers that differ by at most one
pub record Beside (a b : ℕ) : Type 0 where
  pub up : a ≤ b + 1
  pub down : b ≤ a + 1

beside : (a b : ℕ) → within_one a b ≡ true → Beside a b
beside a b e =
    let w = and_parts (leb a (b + 1)) (leb b (a + 1)) e in
    record { up = leb-true a (b + 1) w.0; down = leb-true b (a + 1) w.1 }

pub joined-cells : (g : Grid) (p q : Position) → meets g p q ≡ true
    → Beside (column_of g p) (column_of g q) × Beside (row_of g p) (row_of g q)
unfolding adjacent_cells
joined-cells g p q e =
    let w = and_parts (within_one (column_of g p) (column_of g q)) (within_one (row_of g p) (row_of g q))
    (and_parts (near g.square p q) (adjacent_cells g p q) e).1 in
    (beside (column_of g p) (column_of g q) w.0, beside (row_of g p) (row_of g q) w.1)
