-- From the error bound and exactness at whole values to `Accurate`, and from there to order and thresholds. Assumes nothing.
use mathlib.Core.Path.{◌≡◌, refl, sym, ap, ◌∙◌, subst}
use mathlib.Core.Logic.{◌↔◌, ⊎_elim}
use Prim.Native.Nat.{ℕ, ◌+◌, ◌*◌, ◌≤◌, ◌<◌}
use native.Mathlib.Nat.{lt_of_not-le, eq-or-lt_of_le}
use native.Mathlib.Omega.{arith}
use lib.Dec.{T, lit<}
use lib.IntN.{ℤ, pos}
use lib.Signed.{◌<ℤ◌}
use lib.Ieee.{Float, lt, le}
use Rattle.float32.specs.Float32.{zero}
use Rattle.float32.specs.Value.{IsValue, Within, IsWhole, plus_part, minus_part}
use Rattle.float32.proofs.Values.{lt-value, le_not_lt}
use Rattle.float32.proofs.Approx.{value-within, restate, lt-within, lt-asym}
use Rattle.response.specs.Response.{response_of}
use Rattle.response.specs.Exact.{credit, debit, fifths}
use Rattle.accuracy.specs.Accurate.{Accurate}
use Rattle.accuracy.proofs.Integers.{sub_parts, less-parts, five-parts, five-times}
use Rattle.accuracy.proofs.Error.{InRange, Computed, computed}

-- ---- the same exact value by another difference
move : (x : Float) (c d P N : ℕ) → c + N ≡ P + d → Computed x c d → Computed x P N
move x c d P N e k = record {
  near = restate x (1024 * c) (1024 * d) 5120 5 (1024 * P) (1024 * N) 5120 5 (lit< tt) (omega arith) (omega arith) k.near;
  exact = λ a b h. k.exact a b (omega arith);
  level = λ h. k.level (omega arith);
}

in-fifths : (sr dr ring cross : ℕ) → InRange sr dr ring cross
    → Computed (response_of sr dr ring cross) (plus_part (fifths sr dr ring cross)) (minus_part (fifths sr dr ring cross))
in-fifths sr dr ring cross i =
    let E = fifths sr dr ring cross in
    move (response_of sr dr ring cross) (credit sr) (debit dr ring cross) (plus_part E) (minus_part E)
    (sub_parts (credit sr) (debit dr ring cross)) (computed sr dr ring cross i)

-- ---- x, near (P - N) fifths, against a whole number k, which it is exactly where P - N is 5 k
module _ (t x : Float) (k P N : ℕ) (w : IsWhole t k) (near : Within x (1024 * P) (1024 * N) 5120 5)
    (level : P ≡ 5 * k + N → IsValue x k 0 1) where
  threshold : Within t (5120 * k) 0 5120 0
  threshold = restate t k 0 1 0 (5120 * k) 0 5120 0 (lit< tt) (omega arith) (omega arith) (value-within t k 0 1 w)

  above : 5 * k + N < P → T (lt t x)
  above h = lt-within t x (5120 * k) 0 (1024 * P) (1024 * N) 5120 0 5 (lit< tt) threshold near (omega arith)

  below : P < 5 * k + N → T (lt x t)
  below h = lt-within x t (1024 * P) (1024 * N) (5120 * k) 0 5120 5 0 (lit< tt) near threshold (omega arith)

  above-only : T (lt t x) → 5 * k + N < P
  above-only l =
      lt_of_not-le (λ (h : P ≤ 5 * k + N). ⊎_elim equal (λ m. lt-asym t x w.is_finite near.is_finite l (below m)) (eq-or-lt_of_le h))
    where
      equal : P ≡ 5 * k + N → ⊥
      equal e = let m = (lt-value t x k 0 k 0 1 (lit< tt) w (level e)).0 l in omega arith

  below-only : T (lt x t) → P < 5 * k + N
  below-only l =
      lt_of_not-le (λ (h : 5 * k + N ≤ P). ⊎_elim equal (λ m. lt-asym x t near.is_finite w.is_finite l (above m)) (eq-or-lt_of_le h))
    where
      equal : 5 * k + N ≡ P → ⊥
      equal e = let m = (lt-value x t k 0 k 0 1 (lit< tt) (level (sym e)) w).0 l in omega arith

module _ (t x : Float) (k : ℕ) (E : ℤ) (w : IsWhole t k) (near : Within x (1024 * plus_part E) (1024 * minus_part E) 5120 5)
    (level : plus_part E ≡ 5 * k + minus_part E → IsValue x k 0 1) where
  above-fifths : T (lt t x) ↔ (pos (5 * k) <ℤ E)
  above-fifths = (
    λ l. (less-parts (pos (5 * k)) E).1 (omega (arith, above-only t x k (plus_part E) (minus_part E) w near level l)),
    λ l. above t x k (plus_part E) (minus_part E) w near level (omega (arith, (less-parts (pos (5 * k)) E).0 l)),
  )

  below-fifths : T (lt x t) ↔ (E <ℤ pos (5 * k))
  below-fifths = (
    λ l. (less-parts E (pos (5 * k))).1 (omega (arith, below-only t x k (plus_part E) (minus_part E) w near level l)),
    λ l. below t x k (plus_part E) (minus_part E) w near level (omega (arith, (less-parts E (pos (5 * k))).0 l)),
  )

-- ---- the theorems
accurate : (x : Float) (E : ℤ) → Computed x (plus_part E) (minus_part E) → Accurate x E
accurate x E v = record {
  near = v.near;
  positive = above-fifths zero x 0 E nought v.near (λ e. v.exact 0 0 (omega arith));
  negative = below-fifths zero x 0 E nought v.near (λ e. v.exact 0 0 (omega arith));
  level = λ e. v.level (ap plus_part e ∙ sym (ap minus_part e));
  exact = λ z e. v.exact (plus_part z) (minus_part z)
      (omega (arith, ap plus_part e ∙ (five-parts z).0, ap minus_part e ∙ (five-parts z).1));
}
  where
    nought : IsWhole zero 0
    nought = record { is_finite = tt; equal = refl }

pub response_accurate : (sr dr ring cross : ℕ) → InRange sr dr ring cross
    → Accurate (response_of sr dr ring cross) (fifths sr dr ring cross)
response_accurate sr dr ring cross i = accurate (response_of sr dr ring cross) (fifths sr dr ring cross) (in-fifths sr dr ring cross i)

-- with no samples the response is +0.0, for 0 fifths
pub zero-accurate : Accurate zero (pos 0)
zero-accurate = subst (λ (x : Float). Accurate x (pos 0)) ((computed 0 0 0 0 none).level refl) (response_accurate 0 0 0 0 none)
  where
    none : InRange 0 0 0 0
    none = omega arith

-- a smaller exact value is computed as a smaller float, whatever maps the two stand in
pub ordered : (x y : Float) (E F : ℤ) → Accurate x E → Accurate y F → E <ℤ F → T (lt x y)
ordered x y E F v w h =
    lt-within x y (1024 * plus_part E) (1024 * minus_part E) (1024 * plus_part F) (1024 * minus_part F) 5120 5 5 (lit< tt) v.near w.near
    (omega (arith, (less-parts E F).0 h))

-- x is above a whole number exactly where E / 5 is
pub above-whole : (t x : Float) (k : ℕ) (E : ℤ) → IsWhole t k → Accurate x E → T (lt t x) ↔ (pos (5 * k) <ℤ E)
above-whole t x k E w v = above-fifths t x k E w v.near (λ e. v.exact (pos k) (five-times E k e))

-- and at or below it exactly where E / 5 is: the test by which peak finding drops a cell
pub at-most-whole : (t x : Float) (k : ℕ) (E : ℤ) → IsWhole t k → Accurate x E → T (le x t) ↔ (¬ (pos (5 * k) <ℤ E))
at-most-whole t x k E w v =
    let a = above-whole t x k E w v in
    let n = le_not_lt x t v.near.is_finite w.is_finite in
    (λ l h. n.0 l (a.1 h), λ h. n.1 (λ l. h (a.0 l)))
