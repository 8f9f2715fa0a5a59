-- Peaks: a place by its tests, where the peaks of a map lie and how many there can be, and when there are none. Assumes nothing.
use Rattle.std.proofs.Common.{◌≡◌, ℕ, ◌-◌, ◌*◌, ◌<◌, ◌≤◌, Bool, true, false, not, T, leb, List, [], length, sym, ap, ◌∙◌, ap₂, mul_comm}
use Rattle.std.proofs.Common.{arith, leb-true}
use mathlib.Core.Bool.{and-false}
use lib.Ieee.{Float, le, is_nan}
use borrow.Author.Tests.{not-true, lt-leb}
use Rattle.lists.specs.Places.{Place, block, keep, All}
use Rattle.lists.proofs.Tests.{and_parts}
use Rattle.lists.proofs.Places.{block-end, block-thin, keep-le, length-block}
use Rattle.lists.proofs.Members.{all_map, all_keep, all-block}
use Rattle.float32.specs.Float32.{lift}
use Rattle.float32.proofs.Classes.{above-lifted}
use Rattle.detect.specs.declared.Search.{Search}
use Rattle.detect.specs.Peaks.{CellTests, beaten, positives, is_peak, peak_places, value_at, larger_by, positive_in}
use Rattle.detect.specs.Internal.{Inside}
use Rattle.detect.specs.Detect.{read_in, peak_in}

-- ---- a place by its tests

module _ (v : CellTests) (w h r least : ℕ) (p : Place) where
  pub peak-below : v.above p ≡ false → false ≡ is_peak v w h r least p
  unfolding is_peak
  peak-below e = rw e

  pub peak-beaten : not (beaten v.larger w h r p) ≡ false → false ≡ is_peak v w h r least p
  unfolding is_peak
  peak-beaten e = rw e (sym (and-false (v.above p)))

  pub peak-few : leb least (positives v.positive w h r p) ≡ false → false ≡ is_peak v w h r least p
  unfolding is_peak
  peak-few e = rw (e, and-false (not (beaten v.larger w h r p)), and-false (v.above p))

  pub peak-counted : v.above p ≡ true → not (beaten v.larger w h r p) ≡ true
      → leb least (positives v.positive w h r p) ≡ is_peak v w h r least p
  unfolding is_peak
  peak-counted e m = rw (e, m)

  module _ (peak : is_peak v w h r least p ≡ true) where
    pub peak-above : v.above p ≡ true
    unfolding is_peak
    peak-above = (and_parts (v.above p) _ peak).0

    pub peak-unbeaten : beaten v.larger w h r p ≡ false
    unfolding is_peak
    peak-unbeaten = not-true _ (and_parts (not (beaten v.larger w h r p)) _ (and_parts (v.above p) _ peak).1).0

    pub peak-supported : least ≤ positives v.positive w h r p
    unfolding is_peak
    peak-supported = leb-true least _ (and_parts (not (beaten v.larger w h r p)) _ (and_parts (v.above p) _ peak).1).1

-- ---- a cell of a list of floats, whose value is u, by the tests of the search
module _ (m : List Float) (s : Search) (p : Place) (u : Float) (e : u ≡ value_at m s.w p) where
  above-is : (b : Bool) → le u s.threshold ≡ b → (read_in m s).above p ≡ not b
  above-is b l = ap not (ap (λ (x : Float). le x s.threshold) (sym e) ∙ l)

  pub cell_below : le u s.threshold ≡ true → false ≡ peak_in m s p
  cell_below l = peak-below (read_in m s) s.w s.h s.window s.least_neighbours p (above-is true l)

  pub cell-few : (n : ℕ) → n ≡ positives (positive_in m s.w) s.w s.h s.window p → n < s.least_neighbours
      → false ≡ peak_in m s p
  cell-few n c l =
      peak-few (read_in m s) s.w s.h s.window s.least_neighbours p
      (ap (leb s.least_neighbours) (sym c) ∙ lt-leb s.least_neighbours n l)

  module _ (t : Bool) (top : t ≡ not (beaten (larger_by s.exact m s.w) s.w s.h s.window p)) where
    pub cell-beaten : t ≡ false → false ≡ peak_in m s p
    cell-beaten b = peak-beaten (read_in m s) s.w s.h s.window s.least_neighbours p (sym top ∙ b)

    pub cell-counted : le u s.threshold ≡ false → t ≡ true
        → (n : ℕ) → n ≡ positives (positive_in m s.w) s.w s.h s.window p → leb s.least_neighbours n ≡ peak_in m s p
    cell-counted l b n c =
        ap (leb s.least_neighbours) c
        ∙ peak-counted (read_in m s) s.w s.h s.window s.least_neighbours p (above-is false l) (sym top ∙ b)

-- a peak's own value is above 0, unless it is NaN: its threshold was lifted
pub peak-positive : (m : List Float) (s : Search) (t : Float) → s.threshold ≡ lift t
    → (p : Place) → peak_in m s p ≡ true → T (not (is_nan (value_at m s.w p))) → positive_in m s.w p ≡ true
peak-positive m s t e p k h =
    above-lifted t (value_at m s.w p) h
    (ap (le (value_at m s.w p)) (sym e) ∙ not-true _ (peak-above (read_in m s) s.w s.h s.window s.least_neighbours p k))

-- ---- where peaks lie, and how many there can be

-- the cells inside the border
abbrev cells_inside : ℕ → ℕ → ℕ → List Place
cells_inside w h border = block border (w - border) border (h - border)

module _ (v : CellTests) (w h border r least : ℕ) where
  -- a side at most twice the border leaves none
  pub none-narrow : w ≤ 2 * border → peak_places v w h border r least ≡ []
  unfolding peak_places
  none-narrow l = ap (keep (is_peak v w h r least)) (block-thin border (w - border) border (h - border) (omega arith))

  pub none-low : h ≤ 2 * border → peak_places v w h border r least ≡ []
  unfolding peak_places
  none-low l = ap (keep (is_peak v w h r least)) (block-end border (w - border) border (h - border) (omega arith))

  -- there are no more than cells inside the border
  pub peaks-at-most : length (peak_places v w h border r least) ≤ (w - 2 * border) * (h - 2 * border)
  unfolding peak_places
  peaks-at-most =
      let a : w - border - border ≡ w - 2 * border = omega arith in
      let b : h - border - border ≡ h - 2 * border = omega arith in
      let c = ap₂ (λ (x y : ℕ). x * y) b a ∙ mul_comm (h - 2 * border) (w - 2 * border) in
      let kept = keep-le (is_peak v w h r least) (cells_inside w h border) in
      omega (arith, kept, length-block border (w - border) border (h - border))

  -- each lies inside the border, and is one
  pub peaks-are : All (λ p. Inside w h border p × (is_peak v w h r least p ≡ true)) (peak_places v w h border r least)
  unfolding peak_places
  peaks-are =
      all_keep (Inside w h border) (is_peak v w h r least) (cells_inside w h border)
      (all-block (Inside w h border) border (w - border) border (h - border)
      (λ x y a b c d. record { left = a; right = omega arith; top = c; bottom = omega arith }))

  -- so its column and row are the map's
  pub peaks-in-map : All (λ p. (p.x < w) × (p.y < h)) (peak_places v w h border r least)
  peaks-in-map =
      all_map (λ p. Inside w h border p × (is_peak v w h r least p ≡ true)) (λ p. (p.x < w) × (p.y < h))
      (λ p k. (omega (arith, k.0.right), omega (arith, k.0.bottom)))
      (peak_places v w h border r least) peaks-are
