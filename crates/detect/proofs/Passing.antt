-- A run of cells of a row that are passed over: none of them is a peak. Assumes nothing.
use Rattle.std.proofs.Common.{◌≡◌, ℕ, suc, ◌+◌, ◌-◌, ◌*◌, ◌<◌, ◌≤◌, Bool, true, false, cond, not, ◌&&◌, ◌||◌, ltb, List, get_or, sym, refl}
use Rattle.std.proofs.Common.{ap, ◌∙◌, subst, suc-mul, arith, ltb-true}
use mathlib.Core.Bool.{false≢true}
use lib.Ieee.{Float, nan, binary32, add, lt}
use Rattle.detect.specs.declared.Search.{Search}
use Rattle.detect.specs.Peaks.{beaten, value_at, slack, beats, larger_by, is_low}
use Rattle.detect.specs.Detect.{read_in, peak_in}
use Rattle.detect.specs.Internal.{Inside, place, Searchable, run_cells, RunInMap, Rival, Passed, RunPassed, PlacesSkipped}
use Rattle.detect.proofs.Cells.{row_in}
use Rattle.detect.proofs.Choice.{peak-below, peak-beaten}
use Rattle.detect.proofs.Overtopping.{overtopped}
use Rattle.detect.proofs.Rows.{skipped-each}
use Rattle.detect.proofs.Window.{over, beats-self}

-- one of two tests is passed
one_of : (P : Type 0) (a b : Bool) → (a || b) ≡ true → (a ≡ true → P) → (b ≡ true → P) → P
one_of P true b e f g = f refl
one_of P false b e f g = g e

-- the same run, with what is known about the search
module _ (m : List Float) (w : ℕ) (at : ℕ) where
  pub run-in-as : (b b' : Bool) → b ≡ b' → RunInMap m w at b → RunInMap m w at b'
  run-in-as b b' e = subst (RunInMap m w at) e

  pub run-passed-as : (t : Float) (b b' x x' : Bool) (n : ℕ) → b ≡ b' → x ≡ x' → RunPassed m w t b x at n → RunPassed m w t b' x' at n
  run-passed-as t b b' x x' n e f r =
      subst (λ (c : Bool). RunPassed m w t b' c at n) f (subst (λ (c : Bool). RunPassed m w t c x at n) e r)

-- a cell without a mark
pub without-mark : (m : List Float) (w : ℕ) (t : Float) (beside exact : Bool) (i : ℕ) (u : Float) → Rival m w i beside u
    → (bar : Float) → bar ≡ cond exact (add binary32 (get_or m i nan) slack) (get_or m i nan)
    → (is_low t (get_or m i nan) || (lt (get_or m i nan) u && lt bar u)) ≡ true → Passed m w t beside exact i
without-mark m w t beside exact i u r bar e p = record {
  rival = u;
  is = r;
  passed = ap (λ (b : Bool). is_low t (get_or m i nan) || b) (sym (over exact (get_or m i nan) bar u e)) ∙ p;
}

module _ (m : List Float) (s : Search) (k : Searchable m s) where
  -- ---- a cell
  module _ (x y : ℕ) (i : Inside s.w s.h s.border (place x y)) where
    abbrev value : Float
    value = value_at m s.w (place x y)

    pub low-peak : is_low s.threshold value ≡ true → peak_in m s (place x y) ≡ false
    low-peak e = sym (peak-below (read_in m s) s.w s.h s.window s.least_neighbours (place x y) (ap not e))

    pub beaten-peak : beaten (larger_by s.exact m s.w) s.w s.h s.window (place x y) ≡ true → peak_in m s (place x y) ≡ false
    beaten-peak e = sym (peak-beaten (read_in m s) s.w s.h s.window s.least_neighbours (place x y) (ap not e))

    passed-peak : (j : ℕ) → j ≡ y * s.w + x → Passed m s.w s.threshold (ltb 0 s.window) s.exact j
        → peak_in m s (place x y) ≡ false
    passed-peak j same p =
        one_of (peak_in m s (place x y) ≡ false) (is_low s.threshold (get_or m j nan)) (beats s.exact (get_or m j nan) p.rival)
        p.passed
        (λ e. low-peak (ap (λ (n : ℕ). is_low s.threshold (get_or m n nan)) (sym same) ∙ e))
        (by (ltb 0 s.window) refl)
      where
        by : (b : Bool) → ltb 0 s.window ≡ b → beats s.exact (get_or m j nan) p.rival ≡ true → peak_in m s (place x y) ≡ false
        by true w e =
            beaten-peak
            (overtopped m s x y k i (ltb-true 0 s.window w) (get_or m j nan) (ap (λ (n : ℕ). get_or m n nan) same) j same p.rival
            (p.is.of_four w) (cond s.exact (add binary32 (get_or m j nan) slack) (get_or m j nan)) refl
            (beats s.exact (get_or m j nan) p.rival) (sym (over s.exact (get_or m j nan) _ p.rival refl)) e)
        by false w e =
            absurd
            (false≢true
            (sym (beats-self s.exact (get_or m j nan)) ∙ ap (beats s.exact (get_or m j nan)) (sym (p.is.itself w)) ∙ e))

  -- ---- a run inside the border
  module _ (x y : ℕ) (left : s.border ≤ x) (right : x + run_cells ≤ s.w - s.border) (top : s.border ≤ y)
      (bottom : y < s.h - s.border) where
    pub run_in : RunInMap m s.w (y * s.w + x) (ltb 0 s.window)
    run_in = record {
      within = omega (arith, row_in m s k y (omega arith) (x + run_cells) (omega arith));
      around = λ e.
          let wide : 1 ≤ s.border = omega (arith, ltb-true 0 s.window e, k.inside) in
          let above : y * s.w ≡ (y - 1) * s.w + s.w = ap (λ (n : ℕ). n * s.w) (omega arith) ∙ suc-mul (y - 1) s.w in (
            omega arith,
            omega (arith, above),
            omega (arith, suc-mul y s.w, row_in m s k (suc y) (omega arith) (x + run_cells) (omega arith)),
          );
    }

    pub run-skipped : (n : ℕ) → RunPassed m s.w s.threshold (ltb 0 s.window) s.exact (y * s.w + x) n
        → PlacesSkipped m s (place x y) (place (x + n) y)
    run-skipped n r =
        let few = r.within in
        skipped-each m s x y n (omega arith) bottom
        (λ j l.
        passed-peak (x + j) y (record { left = omega arith; right = omega arith; top = top; bottom = omega arith })
        (y * s.w + x + j) (omega arith) (r.each j l))
