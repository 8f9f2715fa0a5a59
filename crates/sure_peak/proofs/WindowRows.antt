-- A window that lies in a map, row by row: how many of its cells are above v. Assumes nothing.
use Prim.Native.Nat.{ℕ, ◌+◌, ◌-◌, ◌*◌, ◌<◌, ◌≤◌}
use native.Mathlib.Nat.{mul-le-mul, mul-le-mul_right, mul_comm, suc-mul, le_refl}
use native.Mathlib.Omega.{arith}
use mathlib.Core.Path.{◌≡◌, sym, ap, ◌∙◌}
use mathlib.Core.Bool.{Bool, true, false, cond}
use mathlib.Core.List.{List}
use lib.ListN.{length}
use lib.IntN.{ℤ, pos}
use lib.Signed.{lt_z}
use Rattle.lists.specs.Limits.{largest_side, largest_map, largest_window}
use Rattle.lists.specs.Places.{Place, count}
use Rattle.lists.proofs.Places.{count-block-le}
use Rattle.lists.proofs.Rows.{row_part, CountRows, rows_next, rows_all}
use Rattle.detect.specs.Peaks.{window}
use Rattle.detect.proofs.Window.{square-whole, count-square}
use Rattle.sure_peak.specs.SurePeak.{stored_fifths}
use Rattle.sure_peak.specs.Internal.{Windowed}

module _ (m : List ℤ) (w h r : ℕ) (p : Place) (k : Windowed m w h r p) (v : ℤ) where
  abbrev test : Place → Bool
  test q = lt_z v (stored_fifths m w q)

  -- n cells above v were counted in the rows of the window above row yy
  abbrev pub Counted : ℕ → ℕ → Type 0
  Counted n yy = CountRows (lt_z v) m w (pos 0) (p.x - r) (p.x + r + 1) (p.y - r) (p.y + r + 1) n yy

  -- ---- at a row of the window
  module _ (yy : ℕ) (l : yy < p.y + r + 1) where
    pub row_in : yy * w + (p.x + r + 1) ≤ length m
    row_in =
        let down : yy < h = omega (arith, k.inside.bottom) in
        omega (arith, k.cells.sized, mul_comm w h, mul-le-mul_right w down, suc-mul yy w, k.inside.right)

    pub row_small : yy * w ≤ largest_map
    row_small =
        let down : yy ≤ largest_side = omega (arith, k.inside.bottom, k.cells.low) in
        let e : yy * w ≤ largest_map = mul-le-mul down k.cells.narrow in
        omega arith

    module _ (n : ℕ) (a : Counted n yy) (t : ℕ) (found : t ≡ count (lt_z v) (row_part m w yy (p.x - r) (p.x + r + 1))) where
      pub count_next : Counted (n + t) (yy + 1)
      count_next = rows_next (lt_z v) m w (pos 0) _ _ _ _ n yy a (omega arith) l row_in t found

      pub count_fits : n + t ≤ largest_window
      count_fits =
          omega (arith, count_next.sum, count-block-le test (p.x - r) (p.x + r + 1) (p.y - r) (p.y + r + 1) 33 33 wide high)
        where
          wide : p.x + r + 1 - (p.x - r) ≤ 33
          wide = omega (arith, k.radius)

          high : p.y + r + 1 - (p.y - r) ≤ 33
          high = omega (arith, k.radius)

  -- ---- the centre
  pub centre-in : p.y * w + p.x < length m
  centre-in = omega (arith, row_in p.y (omega arith))

  pub centre-small : p.y * w + p.x ≤ 16781312
  centre-small = omega (arith, row_small p.y (omega arith), k.inside.right, k.cells.narrow)

  -- ---- behind the last row
  module _ (n yy : ℕ) (a : Counted n yy) (l : p.y + r + 1 ≤ yy) where
    count-all : n ≡ count test (window w h r p) + cond (test p) 1 0
    count-all =
        rows_all (lt_z v) m w (pos 0) _ _ _ _ n yy a l
        ∙ ap (count test) (sym (square-whole w h r r p (le_refl r) k.inside))
        ∙ count-square w h r p test (omega (arith, k.inside.right)) (omega (arith, k.inside.bottom))

    -- the centre is taken off where it was counted
    pub centre-counted : test p ≡ true → 1 ≤ n
    centre-counted q = omega (arith, rw q at count-all)

    pub centre-off : test p ≡ true → n - 1 ≡ count test (window w h r p)
    centre-off q = omega (arith, rw q at count-all)

    pub centre-not : test p ≡ false → n ≡ count test (window w h r p)
    centre-not q = omega (arith, rw q at count-all)
