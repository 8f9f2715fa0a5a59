-- The window test by what led to its answer, and how many ties there can be: at most 1,089 of a peak. Assumes nothing.
use Rattle.std.proofs.Common.{◌≡◌, ℕ, ◌*◌, ◌≤◌, Bool, true, false, cond, not, ◌||◌, List, [], ◌∷◌, length, sym, refl, ap, ◌∙◌, arith}
use Rattle.std.proofs.Common.{None, Some}
use lib.Ieee.{Float, lt, le, eq}
use borrow.Author.Tests.{not-true, not-false}
use Rattle.lists.specs.Places.{Place, any, keep, count, sum_of}
use Rattle.lists.proofs.Tests.{or_right}
use Rattle.lists.proofs.Members.{Implies, keep-fewer, all_of}
use Rattle.detect.specs.declared.Search.{Search}
use Rattle.detect.specs.declared.neighbors.Asked.TheVariants.{AtLeast}
use Rattle.detect.specs.Peaks.{window, value_at, larger_in, equal_in, beaten, equals, window_test, ties_of, positive_in, positives}
use Rattle.detect.specs.Detect.{read_in, peaks_in, neighbours_at, test_at, ties_at, ties_in}
use Rattle.detect.specs.Internal.{Searchable, counted_at}
use Rattle.detect.proofs.Cells.{inside-few}
use Rattle.detect.proofs.Choice.{peaks-at-most}
use Rattle.detect.proofs.Window.{window-few}

-- ---- the answer, by the test whether a cell of the window is larger
module _ (m : List Float) (s : Search) (p : Place) (t : Bool)
    (top : t ≡ not (beaten (larger_in m s.w) s.w s.h s.window p)) where
  abbrev lost : Bool
  lost = beaten (larger_in m s.w) s.w s.h s.window p

  pub test-top : t ≡ true → (n : ℕ) → n ≡ equals (equal_in m s.w) s.w s.h s.window p → Some n ≡ test_at m s p
  unfolding window_test
  test-top q n e = rw (not-true lost (sym top ∙ q)) (ap Some e)

  pub test-beaten : t ≡ false → None ≡ test_at m s p
  unfolding window_test
  test-beaten q = rw (not-false lost (sym top ∙ q))

-- ---- where no other cell of the window is at least as large, none is larger and none equals it

none-counted : {A : Type 0} (g : A → Bool) (l : List A) → count g l ≡ 0 → any g l ≡ false
unfolding count
none-counted g [] e = refl
none-counted g (a ∷ l) e = pick (g a) (none-counted g l) e
  where
    pick : (b : Bool) → (length (keep g l) ≡ 0 → any g l ≡ false) → length (cond b (a ∷ keep g l) (keep g l)) ≡ 0 → (b || any g l) ≡ false
    pick true r e = absurd (let no : ⊥ = omega arith in no)
    pick false r e = r e

lt-le : (v u : Float) → lt v u ≡ true → le v u ≡ true
unfolding le
lt-le v u e = rw e

eq-le : (v u : Float) → eq v u ≡ true → le v u ≡ true
unfolding le
eq-le v u e = rw e (or_right (lt v u))

module _ (m : List Float) (s : Search) (p : Place) (alone : counted_at m s p AtLeast (value_at m s.w p) ≡ 0) where
  -- no cell passes a test that only cells pass which are at least as large
  none_pass : (g : Float → Float → Bool) → ((u : Float) → g (value_at m s.w p) u ≡ true → le (value_at m s.w p) u ≡ true)
      → count (λ q. g (value_at m s.w p) (value_at m s.w q)) (window s.w s.h s.window p) ≡ 0
  unfolding count
  none_pass g more =
      let here = value_at m s.w p in
      let cells = window s.w s.h s.window p in
      let f : Place → Bool = λ q. g here (value_at m s.w q) in
      let f' : Place → Bool = λ q. le here (value_at m s.w q) in
      omega (arith, alone, keep-fewer f f' cells (all_of (Implies f f') (λ q. more (value_at m s.w q)) cells))

  none-larger : beaten (larger_in m s.w) s.w s.h s.window p ≡ false
  unfolding beaten
  none-larger =
      none-counted (λ q. larger_in m s.w q p) (window s.w s.h s.window p) (none_pass lt (lt-le (value_at m s.w p)))

  none_equal : equals (equal_in m s.w) s.w s.h s.window p ≡ 0
  unfolding equals
  none_equal = none_pass eq (eq-le (value_at m s.w p))

  test-sole : Some 0 ≡ test_at m s p
  unfolding window_test
  test-sole = rw (none-larger, none_equal)

pub test-alone : (m : List Float) (s : Search) (p : Place) (v : Float) → v ≡ value_at m s.w p
    → (n : ℕ) → n ≡ counted_at m s p AtLeast v → n ≡ 0 → Some 0 ≡ test_at m s p
test-alone m s p v e n told none = test-sole m s p (ap (counted_at m s p AtLeast) (sym e) ∙ sym told ∙ none)

-- ---- how many there can be
module _ (m : List Float) (s : Search) (k : Searchable m s) where
  -- those of one place
  pub few-at : (p : Place) → ties_at m s p ≤ 1089
  unfolding window_test equals
  few-at p = pick (beaten (larger_in m s.w) s.w s.h s.window p)
    where
      pick : (b : Bool) → ties_of (cond b None (Some (equals (equal_in m s.w) s.w s.h s.window p))) ≤ 1089
      pick true = omega arith
      pick false = window-few s.w s.h s.window p (λ q. equal_in m s.w q p) k.radius

  -- and the positive neighbours of one
  pub neighbours-few : (p : Place) → neighbours_at m s p ≤ 1089
  unfolding positives
  neighbours-few p = window-few s.w s.h s.window p (positive_in m s.w) k.radius

  -- of a list of them
  few-of : (l : List Place) → sum_of (ties_at m s) l ≤ 1089 * length l
  few-of [] = omega arith
  few-of (p ∷ l) = omega (arith, few-at p, few-of l)

  -- and of the peaks, of which a map of 4,096 by 4,096 cells has no more than cells
  pub ties-few : ties_in m s ≤ 18270388224
  ties-few =
      let most = peaks-at-most (read_in m s) s.w s.h s.border s.window s.least_neighbours in
      omega (arith, few-of (peaks_in m s), most, inside-few s k.wide k.high)
