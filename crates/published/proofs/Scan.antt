-- The indices that are scanned for a corner are those of the kept corners in neighbouring cells, as long as the grid lists each at its
-- cell. Assumes nothing.
use mathlib.Core.Path.{◌≡◌, sym, ap, ◌∙◌}
use mathlib.Core.Bool.{true, ◌&&◌}
use mathlib.Core.List.{List}
use Prim.Native.Nat.{ℕ, ◌+◌, ◌-◌, ◌*◌, ◌/◌, ◌≤◌, ◌<◌, min}
use native.Mathlib.Nat.{mul-add-div_right, div-eq_of_lt}
use native.Mathlib.Omega.{arith}
use lib.Dec.{leb}
use lib.ListN.{length}
use borrow.Author.Tests.{le-leb, leb-true}
use Rattle.lists.specs.Places.{flat_map}
use Rattle.lists.proofs.Tests.{and_parts}
use Rattle.corner_list.specs.declared.Corner.{Corner}
use Rattle.merge_grid.specs.declared.Grid.{Grid}
use Rattle.merge_grid.specs.Grid.{position_of, column_of, row_of, within_one, adjacent_cells}
use Rattle.published.specs.MergeRs.{GridRs, width_rs, height_rs, column_rs, row_rs, index_rs, out_at, around_rs, scanned_rs}
use Rattle.published.proofs.Indices.{In, range-in, in-range}
use Rattle.published.proofs.Grid.{Holds}

-- a corner's cell numbers are those of the definition
abbrev pub Placed : GridRs → Grid → Corner → Type 0
Placed g G c = (column_rs g c ≡ column_of G (position_of c)) × (row_rs g c ≡ row_of G (position_of c))

-- ---- cells and their numbers
same-cell : (w x y u v : ℕ) → x < w → u < w → y * w + x ≡ v * w + u → (x ≡ u) × (y ≡ v)
same-cell w x y u v p q e =
    let w-pos : 0 < w = omega arith in
    let row : y ≡ v =
    (let a : (y * w + x) / w ≡ y = mul-add-div_right w-pos y x ∙ (rw (div-eq_of_lt p) (omega arith)) in
    let b : (v * w + u) / w ≡ v = mul-add-div_right w-pos v u ∙ (rw (div-eq_of_lt q) (omega arith)) in
    sym a ∙ ap (λ (n : ℕ). n / w) e ∙ b) in
    let rows : y * w ≡ v * w = ap (λ (n : ℕ). n * w) row in
    (omega arith, row)

near_by : (a b side : ℕ) → b < side → within_one a b ≡ true → (a - 1 ≤ b) × (b < min (a + 1) (side - 1) + 1)
near_by a b side l e =
    let p = and_parts (leb a (b + 1)) (leb b (a + 1)) e in
    (omega (arith, leb-true a (b + 1) p.0), omega (arith, leb-true b (a + 1) p.1))

by_near : (a b side : ℕ) → a - 1 ≤ b → b < min (a + 1) (side - 1) + 1 → within_one a b ≡ true
by_near a b side p q = rw (le-leb a (b + 1) (omega arith), le-leb b (a + 1) (omega arith))

module _ (g : GridRs) (G : Grid) (out : List Corner) (grid : ℕ → List ℕ) (h : Holds (index_rs g) (Placed g G) out grid)
    (c : Corner) (at : Placed g G c) where
  adjacent-are : (o : Corner) → Placed g G o
      → adjacent_cells G (position_of c) (position_of o)
      ≡ (within_one (column_rs g c) (column_rs g o) && within_one (row_rs g c) (row_rs g o))
  unfolding adjacent_cells
  adjacent-are o p = rw (at.0, at.1, p.0, p.1)

  -- what is scanned of one row of cells
  abbrev line : ℕ → List ℕ
  line ny = flat_map (λ nx. grid (ny * width_rs g + nx)) (around_rs (column_rs g c) (width_rs g))

  pub near-scanned : (i : ℕ) → i < length out → adjacent_cells G (position_of c) (position_of (out_at out i)) ≡ true
      → In i (scanned_rs g grid c)
  unfolding scanned_rs
  near-scanned i l e =
      let o = out_at out i in
      let p = and_parts (within_one (column_rs g c) (column_rs g o)) (within_one (row_rs g c) (row_rs g o))
      (sym (adjacent-are o (h.good i l)) ∙ e) in
      let x = near_by (column_rs g c) (column_rs g o) (width_rs g) (omega arith) p.0 in
      let y = near_by (row_rs g c) (row_rs g o) (height_rs g) (omega arith) p.1 in
      range-in i line (row_rs g c - 1) _ (row_rs g o) y.0 y.1
      (range-in i (λ nx. grid (row_rs g o * width_rs g + nx)) (column_rs g c - 1) _ (column_rs g o) x.0 x.1 (h.listed i l))

  pub scanned-near : (i : ℕ) → In i (scanned_rs g grid c)
      → (i < length out) × (adjacent_cells G (position_of c) (position_of (out_at out i)) ≡ true)
  unfolding scanned_rs
  scanned-near i k =
      let row = in-range i line (row_rs g c - 1) (min (row_rs g c + 1) (height_rs g - 1) + 1) k in
      let column = in-range i (λ nx. grid (row.k * width_rs g + nx)) (column_rs g c - 1)
      (min (column_rs g c + 1) (width_rs g - 1) + 1) row.here in
      let is = h.only i (row.k * width_rs g + column.k) column.here in
      let o = out_at out i in
      let cell = same-cell (width_rs g) (column_rs g o) (row_rs g o) column.k row.k (omega arith)
      (omega (arith, column.below)) is.1 in
      let x : within_one (column_rs g c) (column_rs g o) ≡ true = rw cell.0
      (by_near (column_rs g c) column.k (width_rs g) column.from column.below) in
      let y : within_one (row_rs g c) (row_rs g o) ≡ true = rw cell.1
      (by_near (row_rs g c) row.k (height_rs g) row.from row.below) in
      (is.0, adjacent-are o (h.good i is.0) ∙ rw (x, y))
