-- Windows: whole inside the border, and what their tests say of the square with its centre. Assumes nothing.
use Rattle.std.proofs.Common.{◌≡◌, ℕ, ◌+◌, ◌-◌, ◌<◌, ◌≤◌, min, Bool, true, false, cond, not, ◌&&◌, eqb, List, [], ◌∷◌, length, sym, refl}
use Rattle.std.proofs.Common.{ap, ◌∙◌, arith, eq-eqb, eqb-true}
use lib.Ieee.{Float, binary32, add, lt}
use borrow.Author.Tests.{not-false}
use Rattle.lists.specs.Places.{Place, block, any, keep, count, All}
use Rattle.lists.proofs.Tests.{and_parts}
use Rattle.lists.proofs.Places.{count-block-le}
use Rattle.lists.proofs.Scan.{any-kept, count_kept}
use Rattle.lists.proofs.Parts.{keep-only}
use Rattle.lists.proofs.Members.{all_map, all_keep, all-block}
use Rattle.float32.proofs.Classes.{lt-self}
use Rattle.detect.specs.Peaks.{same, square, window, beaten, value_at, slack, beats, larger_by}
use Rattle.detect.specs.Internal.{Inside}

-- ---- tests of places

pub same_self : (p : Place) → same p p ≡ true
same_self p = rw (eq-eqb p.x p.x refl, eq-eqb p.y p.y refl)

same_place : (p q : Place) → same q p ≡ true → q ≡ p
same_place p q e =
    let s = and_parts (eqb q.x p.x) (eqb q.y p.y) e in
    let x = eqb-true q.x p.x s.0 in
    let y = eqb-true q.y p.y s.1 in
    λ i. record { x = x i; y = y i }

same-other : (u v : ℕ) (p : Place) → (u ≡ p.x → v ≡ p.y → ⊥) → same (record { x = u; y = v }) p ≡ false
same-other u v p n = pick (eqb u p.x) (eqb v p.y) refl refl
  where
    pick : (a b : Bool) → eqb u p.x ≡ a → eqb v p.y ≡ b → (a && b) ≡ false
    pick true true e f = absurd (n (eqb-true u p.x e) (eqb-true v p.y f))
    pick true false e f = refl
    pick false b e f = refl

-- ---- a fact of each cell of a map that is near p is one of each cell of a window

-- q lies no further than r columns and r rows from p
pub record Near (r : ℕ) (p q : Place) : Type 0 where
  pub left : p.x ≤ q.x + r
  pub right : q.x ≤ p.x + r
  pub above : p.y ≤ q.y + r
  pub below : q.y ≤ p.y + r

pub window-near : (P : Place → Type 0) (w h r : ℕ) (p : Place) → ((q : Place) → q.x < w → q.y < h → Near r p q → P q)
    → All P (window w h r p)
unfolding window square
window-near P w h r p f =
    all_map (λ q. P q × (not (same q p) ≡ true)) P (λ q k. k.0) (window w h r p)
    (all_keep P (λ q. not (same q p)) (square w h r p)
    (all-block P (p.x - r) (min (p.x + r + 1) w) (p.y - r) (min (p.y + r + 1) h)
    (λ x y a b c d.
    f (record { x = x; y = y }) (omega arith) (omega arith)
    (record { left = omega arith; right = omega arith; above = omega arith; below = omega arith }))))

-- a fact of each cell of a map
pub window-in : (P : Place → Type 0) (w h r : ℕ) (p : Place) → ((q : Place) → q.x < w → q.y < h → P q)
    → All P (window w h r p)
window-in P w h r p f = window-near P w h r p (λ q i j _. f q i j)

-- ---- at most 1,089 cells of a window pass a test, clipped or not
pub window-few : (w h r : ℕ) (p : Place) (f : Place → Bool) → r ≤ 16 → count f (window w h r p) ≤ 1089
unfolding window square
window-few w h r p f k =
    let most =
    count-block-le f (p.x - r) (min (p.x + r + 1) w) (p.y - r) (min (p.y + r + 1) h) 33 33 (omega arith) (omega arith)
    in
    omega (arith, most, count_kept f (λ q. not (same q p)) (square w h r p))

-- ---- inside the border a window that is no wider is not clipped

-- the square of 2r + 1 cells a side about p
abbrev pub about : ℕ → Place → List Place
about r p = block (p.x - r) (p.x + r + 1) (p.y - r) (p.y + r + 1)

pub square-whole : (w h border r : ℕ) (p : Place) → r ≤ border → Inside w h border p → square w h r p ≡ about r p
unfolding square
square-whole w h border r p k i =
    let ex : min (p.x + r + 1) w ≡ p.x + r + 1 = omega (arith, i.right) in
    let ey : min (p.y + r + 1) h ≡ p.y + r + 1 = omega (arith, i.bottom) in
    rw (ex, ey)

-- a centre does not beat itself
pub beats-self : (b : Bool) (v : Float) → beats b v v ≡ false
beats-self false v = lt-self v
beats-self true v = rw (lt-self v)

-- what the code asks of a cell: above v and above the bar
pub over : (b : Bool) (v bar u : Float) → bar ≡ cond b (add binary32 v slack) v → (lt v u && lt bar u) ≡ beats b v u
over false v bar u e = rw e (twice (lt v u))
  where
    twice : (t : Bool) → (t && t) ≡ t
    twice true = refl
    twice false = refl
over true v bar u e = rw e

pub over-bar : (b : Bool) (v bar : Float) → bar ≡ cond b (add binary32 v slack) v → (cells : List Float)
    → any (λ u. lt v u && lt bar u) cells ≡ any (beats b v) cells
over-bar b v bar e cells = ap (λ (f : Float → Bool). any f cells) (λ i u. over b v bar u e i)

module _ (b : Bool) (m : List Float) (w h r : ℕ) (p : Place) where
  beaten-square : beaten (larger_by b m w) w h r p ≡ any (λ q. beats b (value_at m w p) (value_at m w q)) (square w h r p)
  unfolding beaten window
  beaten-square =
      any-kept (λ q. larger_by b m w q p) (λ q. not (same q p))
      (λ q e. ap (λ (t : Place). larger_by b m w t p) (same_place p q (not-false (same q p) e)) ∙ beats-self b (value_at m w p))
      (square w h r p)

-- and is counted once
module _ (w h r : ℕ) (p : Place) where
  centre-only : p.x < w → p.y < h → keep (λ q. not (not (same q p))) (square w h r p) ≡ p ∷ []
  unfolding square
  centre-only px py =
      keep-only (λ q. not (not (same q p))) (p.x - r) (min (p.x + r + 1) w) (p.y - r) (min (p.y + r + 1) h) p.x p.y
      (ap (λ (t : Bool). not (not t)) (same_self p)) (λ u v n. ap (λ (t : Bool). not (not t)) (same-other u v p n))
      (omega arith) (omega arith) (omega arith) (omega arith)

  pub count-square : (f : Place → Bool) → p.x < w → p.y < h → count f (square w h r p) ≡ count f (window w h r p) + cond (f p) 1 0
  unfolding window
  count-square f px py =
      count_kept f (λ q. not (same q p)) (square w h r p)
      ∙ ap (λ (n : ℕ). count f (window w h r p) + n) (ap (count f) (centre-only px py) ∙ one)
    where
      one : count f (p ∷ []) ≡ cond (f p) 1 0
      one = unfold count in (pick (f p))
        where
          pick : (b : Bool) → length (cond b (p ∷ []) []) ≡ cond b 1 0
          pick true = refl
          pick false = refl

-- ---- the tests of a window inside the border, over the whole square, where the centre's value is v
module _ (m : List Float) (w h border r : ℕ) (p : Place) (v : Float) (k : r ≤ border)
    (i : Inside w h border p) (e : v ≡ value_at m w p) where
  whole : square w h r p ≡ about r p
  whole = square-whole w h border r p k i

  pub beaten-whole : (b : Bool) → any (λ q. beats b v (value_at m w q)) (about r p) ≡ beaten (larger_by b m w) w h r p
  beaten-whole b = rw e (sym (beaten-square b m w h r p ∙ ap (any (λ q. beats b (value_at m w p) (value_at m w q))) whole))

  -- how many cells pass a test of their values
  pub count-whole : (f : Float → Bool)
      → count (λ q. f (value_at m w q)) (about r p) ≡ count (λ q. f (value_at m w q)) (window w h r p) + cond (f v) 1 0
  count-whole f =
      ap (count (λ q. f (value_at m w q))) (sym whole)
      ∙ count-square w h r p (λ q. f (value_at m w q)) (omega (arith, i.right)) (omega (arith, i.bottom))
      ∙ ap (λ (x : Float). count (λ q. f (value_at m w q)) (window w h r p) + cond (f x) 1 0) (sym e)
