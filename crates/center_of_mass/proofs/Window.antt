-- The sums over a window, a cell and a row at a time, and the cells of a window as places of the map. Assumes nothing.
use mathlib.Core.Path.{◌≡◌, refl}
use mathlib.Core.List.{List, [], ◌∷◌, ◌++◌}
use Prim.Native.Nat.{ℕ, ◌+◌, ◌*◌, ◌≤◌, ◌<◌}
use native.Mathlib.Nat.{mul-le-mul, mul-le-mul_right, mul_comm, suc-mul}
use native.Mathlib.Omega.{arith}
use lib.Ieee.{Float}
use Rattle.lists.specs.Limits.{largest_side, largest_map}
use Rattle.lists.specs.Places.{Place, row, block}
use Rattle.lists.proofs.Places.{row-end, row_step, block-end, block-step}
use Rattle.center_of_mass.specs.declared.Sums.{Sums}
use Rattle.center_of_mass.specs.CenterOfMass.{with_cell, with_cells}

module _ (m : List Float) (w : ℕ) where
  cells-append : (s : Sums) (ps qs : List Place) → with_cells m w s (ps ++ qs) ≡ with_cells m w (with_cells m w s ps) qs
  unfolding with_cells
  cells-append s [] qs = refl
  cells-append s (p ∷ ps) qs = cells-append (with_cell m w s p) ps qs

  -- ---- along a row: the sums s with what is left of it are the sums `whole`
  module _ (y x x1 : ℕ) (s whole : Sums) (e : with_cells m w s (row y x x1) ≡ whole) where
    pub one_cell : x < x1 → with_cells m w (with_cell m w s (record { x = x; y = y })) (row y (x + 1) x1) ≡ whole
    unfolding with_cells
    one_cell h = rw (row_step y x x1 h) at e

    pub no_cell : x1 ≤ x → s ≡ whole
    unfolding with_cells
    no_cell h = rw (row-end y x x1 h) at e

  -- ---- down a window
  module _ (x0 x1 y y1 : ℕ) (s whole : Sums) (e : with_cells m w s (block x0 x1 y y1) ≡ whole) where
    pub one-row : (t : Sums) → y < y1 → t ≡ with_cells m w s (row y x0 x1) → with_cells m w t (block x0 x1 (y + 1) y1) ≡ whole
    one-row t h q = rw (q, ← cells-append s (row y x0 x1) (block x0 x1 (y + 1) y1), ← block-step x0 x1 y y1 h) e

    pub no_row : y1 ≤ y → s ≡ whole
    unfolding with_cells
    no_row h = rw (block-end x0 x1 y y1 h) at e

-- ---- a row of the window is one of the map's, whose cells are at most 2 ^ 24
pub row_small : (y w : ℕ) → y ≤ largest_side → w ≤ largest_side → y * w ≤ largest_map
row_small y w h k = mul-le-mul h k

pub row_in : (y y1 w l : ℕ) → y < y1 → y1 * w ≤ l → y * w + w ≤ l
row_in y y1 w l h k = omega (arith, suc-mul y w, mul-le-mul_right w h)

pub rows_in : (y1 w h l : ℕ) → y1 ≤ h → l ≡ w * h → y1 * w ≤ l
rows_in y1 w h l k e = omega (arith, mul_comm w h, mul-le-mul_right w k)
