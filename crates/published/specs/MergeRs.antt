-- merge.rs: `merge_corners_simple` and `merge_corners_naive`. None of their tests reads the neighbours; these stay with
-- the corner that is pushed or replaces another.
use Rattle.std.specs.Prelude.{ℕ, ◌+◌, ◌-◌, ◌*◌, ◌%◌, ◌^◌, ◌<◌, min, ◌≡◌, Bool, true, false, cond, not, ◌&&◌, ◌||◌, List}
use Rattle.std.specs.Prelude.{[], ◌∷◌, ◌++◌, map, leb, eqb, length, get_or, set, Float}
use Rattle.std.specs.Float.{nan, inf, binary32}
use Rattle.std.specs.Float.Ieee.{lt, le, add, sub, mul, div}
use Rattle.std.specs.Float.Ieee.Scale.{finite}
use Rattle.lists.specs.Places.{range, keep, flat_map, All}
use Rattle.float32.specs.Float32.{zero}
use Rattle.corner_list.specs.declared.Corner.{Corner}
use Rattle.corner_list.specs.CornerList.{Slices, x_of, y_of, is_inside, corners_of}
use Rattle.merge_radius.specs.MergeRadius.{is_off, is_sized}
use Rattle.merge_refusal.specs.Refusals.{refusal_of}
use Rattle.merge_grid.specs.Grid.{least_from, position_of, column_of, row_of, grid_of}
use Rattle.merge.specs.Merge.{result_of}
use Rattle.merge_naive.specs.MergeNaive.{naive_of}
use Rattle.published.specs.Rust.{floor_f, cut_usize}
use Rattle.published.specs.PyramidRs.{one32}

-- ---- the grid

-- `if c.x > max_x { max_x = c.x; }` for each; `least_from` is the same for `min_x`
abbrev pub greatest_from : Float → List Float → Float
greatest_from m [] = m
greatest_from m (v ∷ l) = greatest_from (cond (lt m v) v m) l

pub record GridRs : Type 0 where
  pub min-x : Float
  pub min_y : Float
  pub max-x : Float
  pub max_y : Float
  pub inv_cell : Float
  pub r2 : Float

unfoldable pub grid_rs : Float → List Corner → GridRs
grid_rs radius cs =
    record {
      min-x = least_from (inf false) (map x_of cs);
      min_y = least_from (inf false) (map y_of cs);
      max-x = greatest_from (inf true) (map x_of cs);
      max_y = greatest_from (inf true) (map y_of cs);
      inv_cell = div binary32 one32 radius;
      r2 = mul binary32 radius radius;
    }

-- `grid_w`, `grid_h`
abbrev pub side_rs : Float → Float → Float → ℕ
side_rs low high inv = cut_usize (floor_f (mul binary32 (sub binary32 high low) inv)) + 1

abbrev pub width_rs : GridRs → ℕ
width_rs g = side_rs g.min-x g.max-x g.inv_cell

abbrev pub height_rs : GridRs → ℕ
height_rs g = side_rs g.min_y g.max_y g.inv_cell

-- `cell_of`
abbrev pub cell_rs : Float → Float → ℕ → Float → ℕ
cell_rs low inv side v = min (cut_usize (mul binary32 (sub binary32 v low) inv)) (side - 1)

abbrev pub column_rs : GridRs → Corner → ℕ
column_rs g c = cell_rs g.min-x g.inv_cell (width_rs g) c.x

abbrev pub row_rs : GridRs → Corner → ℕ
row_rs g c = cell_rs g.min_y g.inv_cell (height_rs g) c.y

-- for corners and a radius that are not refused: `.min(grid_w - 1)` never changes the result
abbrev pub CellsAsPublished : Type 0
CellsAsPublished =
    (radius : Float) (cs : List Corner) → is_sized radius ≡ true → All (λ c. is_inside c ≡ true) cs
    → All (λ c. (column_rs (grid_rs radius cs) c ≡ column_of (grid_of radius cs) (position_of c))
    × (row_rs (grid_rs radius cs) c ≡ row_of (grid_of radius cs) (position_of c))) cs

-- ---- the loop

-- `out`, and `grid` as the list of indices for each cell number
pub record StateRs : Type 0 where
  pub out : List Corner
  pub grid : ℕ → List ℕ

abbrev pub nowhere : Corner
nowhere = record { x = nan; y = nan; strength = nan; neighbours = 0 }

abbrev pub out_at : List Corner → ℕ → Corner
out_at out i = get_or out i nowhere

abbrev pub index_rs : GridRs → Corner → ℕ
index_rs g c = row_rs g c * width_rs g + column_rs g c

-- `a.saturating_sub(1)..=(a + 1).min(side - 1)`
abbrev pub around_rs : ℕ → ℕ → List ℕ
around_rs a side = range (a - 1) (min (a + 1) (side - 1) + 1)

-- the indices that are scanned for c, in their order
unfoldable pub scanned_rs : GridRs → (ℕ → List ℕ) → Corner → List ℕ
scanned_rs g grid c =
    flat_map (λ ny. flat_map (λ nx. grid (ny * width_rs g + nx)) (around_rs (column_rs g c) (width_rs g)))
    (around_rs (row_rs g c) (height_rs g))

abbrev pub close_rs : Float → Corner → Corner → Bool
close_rs r2 c o =
    let dx = sub binary32 c.x o.x in
    let dy = sub binary32 c.y o.y in
    le (add binary32 (mul binary32 dx dx) (mul binary32 dy dy)) r2

-- `best_idx` after a scan; `hit` is set with it
unfoldable pub best_rs : (ℕ → Bool) → ℕ → List ℕ → ℕ
best_rs close best [] = best
best_rs close best (idx ∷ l) = best_rs close (cond (leb best idx) best (cond (close idx) idx best)) l

-- `u32::MAX`
abbrev pub no_hit : ℕ
no_hit = 2 ^ 32 - 1

-- `grid[j] = l`
abbrev pub put : ℕ → List ℕ → (ℕ → List ℕ) → ℕ → List ℕ
put j l grid i = cond (eqb i j) l (grid i)

-- no hit: `out.push(c)`
abbrev pub push_rs : GridRs → Corner → StateRs → StateRs
push_rs g c s =
    let new-idx = length s.out % 2 ^ 32 in
    record { out = s.out ++ (c ∷ []); grid = put (index_rs g c) (s.grid (index_rs g c) ++ (new-idx ∷ [])) s.grid }

-- `out[i] = c`, and the index moves to the cell of c
abbrev pub moved_rs : ℕ → ℕ → ℕ → (ℕ → List ℕ) → ℕ → List ℕ
moved_rs i old new grid =
    let left = put old (keep (λ j. not (eqb j i)) (grid old)) grid in
    put new (left new ++ (i ∷ [])) left

abbrev pub replace_rs : GridRs → Corner → ℕ → StateRs → StateRs
replace_rs g c i s =
    let o = out_at s.out i in
    record {
      out = set s.out i c;
      grid = cond (eqb (column_rs g o) (column_rs g c) && eqb (row_rs g o) (row_rs g c)) s.grid
          (moved_rs i (index_rs g o) (index_rs g c) s.grid);
    }

-- one iteration
unfoldable pub turn_rs : GridRs → Corner → StateRs → StateRs
turn_rs g c s =
    let i = best_rs (λ i. close_rs g.r2 c (out_at s.out i)) no_hit (scanned_rs g s.grid c) in
    cond (eqb i no_hit) (push_rs g c s) (cond (lt (out_at s.out i).strength c.strength) (replace_rs g c i s) s)

unfoldable pub loop_rs : GridRs → StateRs → List Corner → StateRs
loop_rs g s [] = s
loop_rs g s (c ∷ cs) = loop_rs g (turn_rs g c s) cs

-- ---- `merge_corners_naive`

-- what the inner loop leaves: `out`, and whether it ended in `continue 'outer`
pub record ScannedRs : Type 0 where
  pub out : List Corner
  pub continued : Bool

-- `for o in &mut out`: for the first that is close, `*o = c` if c is stronger, and none after it is looked at
unfoldable pub scan_rs : Float → Corner → List Corner → ScannedRs
scan_rs r2 c [] = record { out = []; continued = false }
scan_rs r2 c (o ∷ behind) =
    let s = scan_rs r2 c behind in
    cond (close_rs r2 c o) (record { out = cond (lt o.strength c.strength) c o ∷ behind; continued = true })
    (record { out = o ∷ s.out; continued = s.continued })

-- `for c in corners.drain(..)`: `out.push(c)` if the inner loop came to its end
unfoldable pub naive_loop_rs : Float → List Corner → List Corner → List Corner
naive_loop_rs r2 out [] = out
naive_loop_rs r2 out (c ∷ cs) =
    let s = scan_rs r2 c out in
    naive_loop_rs r2 (cond s.continued s.out (s.out ++ (c ∷ []))) cs

abbrev pub naive_rs : List Corner → Float → List Corner
naive_rs cs r2 = naive_loop_rs r2 [] cs

-- for any corners and radii, if the radius is on: the square is the one that `merge_corners_simple` passes
abbrev pub NaiveAsPublished : Type 0
NaiveAsPublished =
    (radius : Float) (cs : List Corner) → is_off radius ≡ false
    → naive_rs cs (mul binary32 radius radius) ≡ naive_of radius cs

-- ---- the whole of `merge_corners_simple`
unfoldable pub merge_rs : List Corner → Float → List Corner
merge_rs cs radius =
    let g = grid_rs radius cs in
    cond (eqb (length cs) 0) []
    (cond (not (finite radius) || le radius zero) cs
    (cond (not (finite g.min-x && finite g.min_y && finite g.max-x && finite g.max_y)) (naive_rs cs g.r2)
    (loop_rs g (record { out = []; grid = λ i. [] }) cs).out))

-- a call that is not refused, with fewer corners than an index can count
abbrev pub MergeAsPublished : Type 0
MergeAsPublished =
    (radius : Float) (places count : ℕ) (b : Slices) → refusal_of radius places count b ≡ 0 → count < no_hit
    → merge_rs (corners_of b count) radius ≡ result_of radius (corners_of b count)
