-- Which corners join (merge.rs), by the grid: the least coordinates of the list as given, 1 / radius, and the radius
-- squared.
use Rattle.std.specs.Prelude.{ℕ, ◌+◌, Bool, false, cond, ◌&&◌, List, [], ◌∷◌, map, get_or, pos, leb, Float}
use Rattle.std.specs.Float.{nan, inf, fin, binary32}
use Rattle.std.specs.Float.Ieee.{lt, le, add, sub, mul, div, to_unsigned}
use Rattle.corner_list.specs.declared.Corner.{Corner}
use Rattle.corner_list.specs.CornerList.{x_of, y_of}
use Rattle.merge_grid.specs.declared.Grid.{Grid}
use Rattle.merge_grid.specs.declared.Position.{Position}

-- where a corner is, and where the one at a place of a buffer is: NaN past the end of a slice
abbrev pub position_of : Corner → Position
position_of c = record { x = c.x; y = c.y }

abbrev pub position_at : List Float → List Float → ℕ → Position
position_at xs ys i = record { x = get_or xs i nan; y = get_or ys i nan }

-- a coordinate's cell number: (coordinate - least) × (1 / radius) in f32, cut off as by Rust's `as usize`. The Rust
-- caps it at the grid's last cell, which never changes it (`CellsAsPublished` of published)
abbrev pub cell_of : Float → Float → Float → ℕ
cell_of least inverse v = to_unsigned 64 (mul binary32 (sub binary32 v least) inverse)

-- a position's cell number across, and down
abbrev pub column_of : Grid → Position → ℕ
column_of g p = cell_of g.left g.inverse p.x

abbrev pub row_of : Grid → Position → ℕ
row_of g p = cell_of g.top g.inverse p.y

-- two cell numbers that differ by at most one
abbrev pub within_one : ℕ → ℕ → Bool
within_one a b = leb a (b + 1) && leb b (a + 1)

-- two positions whose cell numbers differ by at most one each way
unfoldable pub adjacent_cells : Grid → Position → Position → Bool
adjacent_cells g p q = within_one (column_of g p) (column_of g q) && within_one (row_of g p) (row_of g q)

abbrev pub squared : Float → Float
squared d = mul binary32 d d

-- two positions whose squared distance is at most the radius squared, which is given, in f32
unfoldable pub near : Float → Position → Position → Bool
near square p q = le (add binary32 (squared (sub binary32 p.x q.x)) (squared (sub binary32 p.y q.y))) square

-- two positions whose corners join: near each other, and in adjacent cells
abbrev pub meets : Grid → Position → Position → Bool
meets g p q = near g.square p q && adjacent_cells g p q

-- two corners that join, whatever their strengths
abbrev pub joins : Grid → Corner → Corner → Bool
joins g c o = meets g (position_of c) (position_of o)

-- the least of m and a list of numbers
abbrev pub least_from : Float → List Float → Float
least_from m [] = m
least_from m (v ∷ l) = least_from (cond (lt v m) v m) l

-- the grid of a radius and a list of corners
unfoldable pub grid_of : Float → List Corner → Grid
grid_of radius cs =
    record {
      left = least_from (inf false) (map x_of cs);
      top = least_from (inf false) (map y_of cs);
      inverse = div binary32 (fin false 1 (pos 0)) radius;
      square = squared radius;
    }
