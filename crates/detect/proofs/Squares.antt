-- The square of five by five cells about a cell: the greatest of them is one of them, and a cell that one of them beats is beaten in its
-- window. Assumes nothing.
use Rattle.std.proofs.Common.{◌≡◌, ℕ, ◌+◌, ◌-◌, ◌*◌, ◌<◌, ◌≤◌, Bool, true, false, cond, not, List, length, get_or, sym, refl, ap, ◌∙◌}
use Rattle.std.proofs.Common.{subst, add-mul, arith, None}
use lib.Ieee.{Float, nan, lt}
use Rattle.lists.specs.Places.{Place, any}
use Rattle.lists.proofs.Members.{at_block, any_none}
use Rattle.detect.specs.declared.Search.{Search}
use Rattle.detect.specs.Peaks.{beaten, value_at, beats, larger_by}
use Rattle.detect.specs.Detect.{WindowTested}
use Rattle.detect.specs.Internal.{Inside, place, Searchable, OfFive, OfSquare}
use Rattle.detect.proofs.Cells.{row_in}
use Rattle.detect.proofs.Ties.{test-beaten}
use Rattle.detect.proofs.Window.{about, beaten-whole}

-- ---- the greater of two is one of them
either : (P : Float → Type 0) (t : Bool) (v v' u : Float) → u ≡ cond t v' v → P v → P v' → P u
either P true v v' u e p q = subst P (sym e) q
either P false v v' u e p q = subst P (sym e) p

pub greater-five : (m : List Float) (a : ℕ) (v v' u : Float) → u ≡ cond (lt v v') v' v → OfFive m a v → OfFive m a v' → OfFive m a u
greater-five m a v v' = either (OfFive m a) (lt v v') v v'

pub greater-square : (m : List Float) (w a : ℕ) (v v' u : Float) → u ≡ cond (lt v v') v' v → OfSquare m w a v → OfSquare m w a v'
    → OfSquare m w a u
greater-square m w a v v' = either (OfSquare m w a) (lt v v') v v'

pub of-first : (m : List Float) (a : ℕ) → OfFive m a (get_or m a nan)
of-first m a = record { column = 0; near = omega arith; is = ap (λ (j : ℕ). get_or m j nan) (omega arith) }

pub of-five : (m : List Float) (a column : ℕ) → column < 5 → OfFive m a (get_or m (a + column) nan)
of-five m a column l = record { column = column; near = l; is = refl }

pub of-square : (m : List Float) (w a row : ℕ) → row < 5 → (i : ℕ) (u : Float) → OfFive m i u → i ≡ a + row * w → OfSquare m w a u
of-square m w a row l i u f e = record { row = row; near = l; five = subst (λ (j : ℕ). OfFive m j u) e f }

-- ---- a cell inside the border of a search with a window of radius 2
module _ (m : List Float) (s : Search) (x y : ℕ) (k : Searchable m s) (i : Inside s.w s.h s.border (place x y))
    (wide : s.window ≡ 2) where
  pub square-in : (y - 2) * s.w + (x - 2) + 4 * s.w + 5 ≤ length m
  square-in =
      let rows : (y - 2 + 4) * s.w ≡ (y - 2) * s.w + 4 * s.w = add-mul (y - 2) 4 s.w in
      omega (
        arith,
        rows,
        row_in m s k (y - 2 + 4) (omega (arith, i.top, i.bottom, k.inside)) (x - 2 + 5) (omega (arith, i.left, i.right, k.inside)),
      )

  module _ (v : Float) (e : v ≡ value_at m s.w (place x y)) where
    abbrev cells : List Place
    cells = about s.window (place x y)

    -- a cell of the window beats it
    beaten-by : (x' y' : ℕ) → x - 2 ≤ x' → x' < x - 2 + 5 → y - 2 ≤ y' → y' < y - 2 + 5 → lt v (value_at m s.w (place x' y')) ≡ true
        → beaten (larger_by false m s.w) s.w s.h s.window (place x y) ≡ true
    beaten-by x' y' a b c d h =
        sym (beaten-whole m s.w s.h s.border s.window (place x y) v k.inside i e false)
        ∙ pick (any (λ q. beats false v (value_at m s.w q)) cells) refl
      where
        pick : (b : Bool) → any (λ q. beats false v (value_at m s.w q)) cells ≡ b → b ≡ true
        pick true f = refl
        pick false f =
            absurd
            (at_block (λ q. beats false v (value_at m s.w q) ≡ true → ⊥) (x - s.window) (x + s.window + 1) (y - s.window)
            (y + s.window + 1) (any_none (λ q. beats false v (value_at m s.w q)) cells f) x' y' (omega arith)
            (omega (arith, i.left, k.inside)) (omega arith) (omega (arith, i.top, k.inside)) h)

    pub topped : (u : Float) → OfSquare m s.w ((y - 2) * s.w + (x - 2)) u → lt v u ≡ true → WindowTested m s (place x y) None
    topped u one larger =
        let five = one.five in
        let at : (y - 2) * s.w + (x - 2) + one.row * s.w + five.column ≡ (y - 2 + one.row) * s.w + (x - 2 + five.column)
        = omega (arith, add-mul (y - 2) one.row s.w) in
        let so =
        beaten-by (x - 2 + five.column) (y - 2 + one.row) (omega arith) (omega (arith, five.near)) (omega arith)
        (omega (arith, one.near))
        (ap (lt v) (sym (five.is ∙ ap (λ (j : ℕ). get_or m j nan) at)) ∙ larger)
        in
        test-beaten m s (place x y) false (sym (ap not so)) refl
