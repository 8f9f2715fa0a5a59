-- The four cells beside a cell: the greatest of them is one of them, and a cell that one of them beats is beaten in its window. Assumes
-- nothing.
use Rattle.std.proofs.Common.{◌≡◌, ℕ, suc, ◌+◌, ◌-◌, ◌*◌, ◌<◌, ◌≤◌, Bool, true, false, cond, ◌&&◌, ◌||◌, List, length, get_or, sym, refl}
use Rattle.std.proofs.Common.{ap, ◌∙◌, suc-mul, arith}
use mathlib.Core.Bool.{false≢true}
use lib.Ieee.{Float, nan, binary32, add, lt}
use Rattle.lists.specs.Places.{Place, any}
use Rattle.lists.proofs.Members.{at_block, any_none, none_any}
use Rattle.detect.specs.declared.Search.{Search}
use Rattle.detect.specs.Peaks.{beaten, value_at, slack, beats, larger_by}
use Rattle.detect.specs.Internal.{Inside, place, Searchable, cells_beside, Beside}
use Rattle.detect.proofs.Cells.{row_in}
use Rattle.detect.proofs.Window.{about, over, beaten-whole}

-- ---- the greater of two is one of them, and the greatest of four

greater-one : (f : Float → Bool) (t : Bool) (a b : Float) → f (cond t b a) ≡ true → (f a || f b) ≡ true
greater-one f true a b e = pick (f a) (f b) e
  where
    pick : (p q : Bool) → q ≡ true → (p || q) ≡ true
    pick true q h = refl
    pick false q h = h
greater-one f false a b e = rw e

one-of-four : (a b c d p q : Bool) → (p ≡ true → (a || b) ≡ true) → (q ≡ true → (c || d) ≡ true) → (p || q) ≡ true
    → (a || (b || (c || (d || false)))) ≡ true
one-of-four true b c d p q h k e = refl
one-of-four false true c d p q h k e = refl
one-of-four false false true d p q h k e = refl
one-of-four false false false true p q h k e = refl
one-of-four false false false false true q h k e = absurd (false≢true (h refl))
one-of-four false false false false false true h k e = absurd (false≢true (k refl))
one-of-four false false false false false false h k e = e

-- the greater of two cells
abbrev greater : Float → Float → Float
greater a b = cond (lt a b) b a

pub beside-most : (m : List Float) (w i : ℕ) (p q u : Float) → p ≡ greater (get_or m (i - w) nan) (get_or m (i + w) nan)
    → q ≡ greater (get_or m (i - 1) nan) (get_or m (i + 1) nan) → u ≡ greater p q → Beside m w i u
beside-most m w i p q u is-p is-q is-u = record {
  one_of = λ f e.
      one-of-four (f (get_or m (i - w) nan)) (f (get_or m (i + w) nan)) (f (get_or m (i - 1) nan)) (f (get_or m (i + 1) nan)) (f p) (f q)
      (λ h. greater-one f (lt (get_or m (i - w) nan) (get_or m (i + w) nan)) _ _ (ap f (sym is-p) ∙ h))
      (λ h. greater-one f (lt (get_or m (i - 1) nan) (get_or m (i + 1) nan)) _ _ (ap f (sym is-q) ∙ h))
      (greater-one f (lt p q) p q (ap f (sym is-u) ∙ e));
}

-- ---- a cell inside the border, whose window has those cells
module _ (m : List Float) (s : Search) (x y : ℕ) (k : Searchable m s) (i : Inside s.w s.h s.border (place x y))
    (wide : 1 ≤ s.window) where
  -- the row above begins one width earlier
  row_before : y * s.w ≡ (y - 1) * s.w + s.w
  row_before =
      let e : y ≡ suc (y - 1) = omega (arith, i.top, k.inside) in
      ap (λ (n : ℕ). n * s.w) e ∙ suc-mul (y - 1) s.w

  pub beside-before : (1 ≤ s.w) × (s.w ≤ y * s.w + x)
  beside-before = (omega (arith, i.right), omega (arith, row_before))

  pub beside-behind : y * s.w + x + s.w < length m
  beside-behind =
      omega (
        arith,
        suc-mul y s.w,
        row_in m s k (suc y) (omega (arith, i.bottom, k.inside)) (x + 1) (omega (arith, i.right)),
      )

  module _ (v : Float) (e : v ≡ value_at m s.w (place x y)) where
    -- what beats it
    abbrev over-it : Float → Bool
    over-it u = beats s.exact v u

    abbrev cells : List Place
    cells = about s.window (place x y)

    -- if no cell of the window does, none of the four does
    none_beside : any (λ q. over-it (value_at m s.w q)) cells ≡ false → any over-it (cells_beside m s.w (y * s.w + x)) ≡ false
    none_beside none =
        none_any over-it (cells_beside m s.w (y * s.w + x)) (
          at x (y - 1) _ (omega (arith, row_before)) (omega arith) (omega arith) (omega arith) (omega arith),
          (
            at x (suc y) _ (omega (arith, suc-mul y s.w)) (omega arith) (omega arith) (omega arith) (omega arith),
            (
              at (x - 1) y _ (omega (arith, i.left, k.inside)) (omega arith) (omega arith) (omega arith) (omega arith),
              (at (x + 1) y _ (omega arith) (omega arith) (omega arith) (omega arith) (omega arith), tt),
            ),
          ),
        )
      where
        at : (x' y' j : ℕ) → j ≡ y' * s.w + x' → x - s.window ≤ x' → x' < x + s.window + 1 → y - s.window ≤ y' → y' < y + s.window + 1
            → over-it (get_or m j nan) ≡ true → ⊥
        at x' y' j same a b c d h =
            at_block (λ q. over-it (value_at m s.w q) ≡ true → ⊥) (x - s.window) (x + s.window + 1) (y - s.window) (y + s.window + 1)
            (any_none (λ q. over-it (value_at m s.w q)) cells none) x' y' a b c d
            (ap (λ (n : ℕ). over-it (get_or m n nan)) (sym same) ∙ h)

    pub overtopped : (j : ℕ) → j ≡ y * s.w + x → (u : Float) → Beside m s.w j u
        → (bar : Float) → bar ≡ cond s.exact (add binary32 v slack) v → (t : Bool) → t ≡ (lt v u && lt bar u) → t ≡ true
        → beaten (larger_by s.exact m s.w) s.w s.h s.window (place x y) ≡ true
    overtopped j same u beside bar is t told so =
        sym (beaten-whole m s.w s.h s.border s.window (place x y) v k.inside i e s.exact)
        ∙ pick (any (λ q. over-it (value_at m s.w q)) cells) refl
      where
        four : any over-it (cells_beside m s.w (y * s.w + x)) ≡ true
        four =
            ap (λ (n : ℕ). any over-it (cells_beside m s.w n)) (sym same)
            ∙ beside.one_of over-it (sym (over s.exact v bar u is) ∙ sym told ∙ so)

        pick : (b : Bool) → any (λ q. over-it (value_at m s.w q)) cells ≡ b → b ≡ true
        pick true h = refl
        pick false h = sym (none_beside h) ∙ four
