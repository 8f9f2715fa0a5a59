-- What holds of any ring's places, and of the radius that a number selects. Assumes nothing.
use mathlib.Core.Path.{◌≡◌}
use mathlib.Core.Logic.{◌⊎◌, inl, inr, ⊎_elim}
use mathlib.Core.Bool.{Bool, true, false, cond}
use mathlib.Core.List.{List, map}
use Prim.Native.Nat.{ℕ, ◌*◌, ◌≤◌}
use native.Mathlib.Omega.{arith}
use native.Mathlib.Decide.{dec_lt}
use borrow.Author.Tests.{eqb-true, eq-eqb, ne_eqb}
use lib.Dec.{eqb, lit≤}
use lib.ListN.{length, get_or, length-map, get_or-eq_default}
use Rattle.lists.specs.Limits.{largest_ring}
use Rattle.lists.proofs.Tests.{or-either, or_right}
use Rattle.ring.specs.Ring.{Ring, ring5, ring10, ring_of, is_ring, dx, dy, IsRing}

-- past the sixteenth place a column and a row read 0
past : (s : List (ℕ × ℕ)) (f : ℕ × ℕ → ℕ) (k : ℕ) → length s ≤ k → get_or (map f s) k 0 ≡ 0
past s f k h = get_or-eq_default (map f s) 0 {n = k} (rw (length-map s f) h)

module _ (t : Ring) (is : IsRing t) where
  -- any place's column and row lie in the ring's square
  pub dx-le : (k : ℕ) → dx t k ≤ 2 * t.radius
  dx-le k =
      elim (dec_lt k 16) [ yes l ↦ is.across k l | no g ↦ rw (past t.places (λ p. p.0) k (omega (arith, is.sixteen))) (omega arith) ]

  pub dy-le : (k : ℕ) → dy t k ≤ 2 * t.radius
  dy-le k =
      elim (dec_lt k 16) [ yes l ↦ is.down k l | no g ↦ rw (past t.places (λ p. p.1) k (omega (arith, is.sixteen))) (omega arith) ]

  -- there is a place off the cross, so the square holds more than its centre
  pub radius-pos : 1 ≤ t.radius
  radius-pos = omega (arith, is.off_cross 0 (lit≤ tt), dx-le 0, dy-le 0)

-- ---- which ring a number selects, and its radius
pub selects-second : (n : ℕ) → n ≡ 10 → ring_of n ≡ ring10
unfolding ring_of
selects-second n e = rw (eq-eqb _ _ e)

pub selects-first : (n : ℕ) → (n ≡ 10 → ⊥) → ring_of n ≡ ring5
unfolding ring_of
selects-first n e = rw (ne_eqb _ _ e)

pub radius-small : (n : ℕ) → (ring_of n).radius ≤ largest_ring
unfolding ring_of ring5 ring10
radius-small n = pick (eqb n 10)
  where
    pick : (b : Bool) → (cond b ring10 ring5).radius ≤ largest_ring
    pick true = lit≤ tt
    pick false = lit≤ tt

-- 5 and 10, the radii that a parameter set may say, select their own ring
pub radius-is : (n : ℕ) → (n ≡ 5) ⊎ (n ≡ 10) → (ring_of n).radius ≡ n
unfolding ring_of ring5 ring10
radius-is n o = ⊎_elim (λ (e : n ≡ 5). rw e) (λ (e : n ≡ 10). rw e) o

pub ring_is : (n : ℕ) → is_ring n ≡ true → (n ≡ 5) ⊎ (n ≡ 10)
ring_is n e = ⊎_elim (λ x. inl (eqb-true n 5 x)) (λ x. inr (eqb-true n 10 x)) (or-either (eqb n 5) (eqb n 10) e)

pub ring-fits : (n : ℕ) → (n ≡ 5) ⊎ (n ≡ 10) → is_ring n ≡ true
ring-fits n (inl e) = rw (eq-eqb n 5 e)
ring-fits n (inr e) = rw (eq-eqb n 10 e) (or_right (eqb n 5))

pub ring-small : (n : ℕ) → is_ring n ≡ true → n ≤ largest_ring
ring-small n e = elim (ring_is n e) [ inl p ↦ omega arith | inr p ↦ omega arith ]
