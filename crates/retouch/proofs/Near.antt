-- Numbers that differ by at most so much, and sums of them. Assumes nothing.
use mathlib.Core.Path.{◌≡◌, refl}
use mathlib.Core.Logic.{⊎_elim}
use mathlib.Core.Bool.{Bool, true, false, not, cond}
use mathlib.Core.List.{List, [], ◌∷◌}
use Prim.Native.Nat.{ℕ, zero, suc, ◌+◌, ◌-◌, ◌<◌, ◌≤◌}
use native.Mathlib.Nat.{eq-zero-or-pos}
use native.Mathlib.Omega.{arith}
use lib.Dec.{T, ltb, ltb→lt, nltb→le}
use lib.ListN.{length}
use lib.IntN.{ℤ, pos, negsuc, nat_abs, sub_ℕ, ◌-ℤ◌}
use Rattle.float32.specs.Value.{plus_part, minus_part, dist, total}
use Rattle.lists.specs.Places.{sum_of, All}
use Rattle.accuracy.proofs.Integers.{sub_parts}
use Rattle.retouch.proofs.Sampling.{Differ, Apart, nth}

pub record Near (a b d : ℕ) : Type 0 where
  pub most : a ≤ b + d
  pub least_neighbours : b ≤ a + d

pub near-gap : (a b : ℕ) → Near a b (dist a b)
near-gap a b = record { most = omega arith; least_neighbours = omega arith }

pub near_same : (a b : ℕ) → a ≡ b → Near a b 0
near_same a b e = record { most = omega arith; least_neighbours = omega arith }

pub near-wide : (a b d e : ℕ) → Near a b d → d ≤ e → Near a b e
near-wide a b d e n l = record { most = omega (arith, n.most); least_neighbours = omega (arith, n.least_neighbours) }

pub near_add : (a b d a' b' d' : ℕ) → Near a b d → Near a' b' d' → Near (a + a') (b + b') (d + d')
near_add a b d a' b' d' n m =
    record { most = omega (arith, n.most, m.most); least_neighbours = omega (arith, n.least_neighbours, m.least_neighbours) }

pub near-dist : (a b d a' b' d' : ℕ) → Near a b d → Near a' b' d' → Near (dist a a') (dist b b') (d + d')
near-dist a b d a' b' d' n m =
    let p = n.most in
    let q = n.least_neighbours in
    let r = m.most in
    let s = m.least_neighbours in
    record { most = omega arith; least_neighbours = omega arith }

pub near-total : (f g e : ℕ → ℕ) (n : ℕ) → ((k : ℕ) → k < n → Near (f k) (g k) (e k)) → Near (total f n) (total g n) (total e n)
unfolding total
near-total f g e zero h = record { most = omega arith; least_neighbours = omega arith }
near-total f g e (suc n) h =
    near_add (total f n) (total g n) (total e n) (f n) (g n) (e n) (near-total f g e n (λ k l. h k (omega arith))) (h n (omega arith))

pub total-alike : (f g : ℕ → ℕ) (n : ℕ) → ((k : ℕ) → k < n → f k ≡ g k) → total f n ≡ total g n
unfolding total
total-alike f g zero h = refl
total-alike f g (suc n) h = omega (arith, total-alike f g n (λ k l. h k (omega arith)), h n (omega arith))

pub near-sum : {A : Type 0} (X Y G : A → ℕ) (l : List A) → All (λ p. Near (X p) (Y p) (G p)) l → Near (sum_of X l) (sum_of Y l) (sum_of G l)
near-sum X Y G [] h = record { most = omega arith; least_neighbours = omega arith }
near-sum X Y G (p ∷ l) h = near_add (X p) (Y p) (G p) (sum_of X l) (sum_of Y l) (sum_of G l) h.0 (near-sum X Y G l h.1)

-- ---- a sum of which at most one term is not 0
sum-nothing : {A : Type 0} (X : A → ℕ) (l : List A) → All (λ p. X p ≡ 0) l → sum_of X l ≡ 0
sum-nothing X [] h = refl
sum-nothing X (p ∷ l) h = omega (arith, h.0, sum-nothing X l h.1)

module _ (X : ℕ × ℕ → ℕ) (d u v : ℕ) where
  nothing-else : (p : ℕ × ℕ) → p.0 ≡ u → p.1 ≡ v → (l : List (ℕ × ℕ)) → All (Differ p) l → All (λ o. 0 < X o → (o.0 ≡ u) × (o.1 ≡ v)) l
      → All (λ o. X o ≡ 0) l
  nothing-else p a b [] h s = tt
  nothing-else p a b (o ∷ l) h s = (
    ⊎_elim (λ (z : X o ≡ 0). z) (λ (g : 0 < X o). let e = s.0 g in absurd (h.0 (omega (arith, e.0)) (omega (arith, e.1))))
        (eq-zero-or-pos (X o)),
    nothing-else p a b l h.1 s.1,
  )

  -- the terms are of places that differ, and one that is not 0 is of the place (u, v)
  pub sum_one : (l : List (ℕ × ℕ)) → Apart l → All (λ p. X p ≤ d) l → All (λ p. 0 < X p → (p.0 ≡ u) × (p.1 ≡ v)) l → sum_of X l ≤ d
  sum_one [] a h s = omega arith
  sum_one (p ∷ l) a h s =
      ⊎_elim
      (λ (z : X p ≡ 0). omega (arith, sum_one l a.1 h.1 s.1))
      (λ (g : 0 < X p). let e = s.0 g in omega (arith, h.0, sum-nothing X l (nothing-else p e.0 e.1 l a.0 s.1)))
      (eq-zero-or-pos (X p))

-- ---- the sum of a list by its indices
total_first : (f : ℕ → ℕ) (n : ℕ) → total f (suc n) ≡ f 0 + total (λ k. f (suc k)) n
unfolding total
total_first f zero = omega arith
total_first f (suc n) = omega (arith, total_first f n)

pub total-nth : (X : ℕ × ℕ → ℕ) (l : List (ℕ × ℕ)) → total (λ k. X (nth l k)) (length l) ≡ sum_of X l
total-nth X [] = unfold total in refl
total-nth X (p ∷ l) = omega (arith, total_first (λ k. X (nth (p ∷ l) k)) (length l), total-nth X l)

-- ---- two differences of naturals
abs-sub : (a b k : ℕ) → a ≤ b + k → b ≤ a + k → nat_abs (sub_ℕ a b) ≤ k
abs-sub a b k p q = go (ltb a b) (ltb→lt a b) (nltb→le a b)
  where
    go : (t : Bool) → (T t → a < b) → (T (not t) → b ≤ a) → nat_abs (cond t (negsuc (b - suc a)) (pos (a - b))) ≤ k
    go true l r = let x = l tt in omega arith
    go false l r = let x = r tt in omega arith

parts-near : (z y : ℤ) (k : ℕ) → plus_part z + minus_part y ≤ plus_part y + minus_part z + k
    → plus_part y + minus_part z ≤ plus_part z + minus_part y + k
    → nat_abs (z -ℤ y) ≤ k
parts-near (pos a) (pos zero) k p q = omega arith
parts-near (pos a) (pos (suc b)) k p q = abs-sub a (suc b) k (omega arith) (omega arith)
parts-near (pos a) (negsuc b) k p q = omega arith
parts-near (negsuc a) (pos zero) k p q = abs-sub 0 (suc a) k (omega arith) (omega arith)
parts-near (negsuc a) (pos (suc b)) k p q = omega arith
parts-near (negsuc a) (negsuc b) k p q = abs-sub (suc b) (suc a) k (omega arith) (omega arith)

pub near_difference : (a b c d k : ℕ) → Near (a + d) (c + b) k → nat_abs (sub_ℕ a b -ℤ sub_ℕ c d) ≤ k
near_difference a b c d k n =
    let e = sub_parts a b in
    let f = sub_parts c d in
    parts-near (sub_ℕ a b) (sub_ℕ c d) k (omega (arith, n.most)) (omega (arith, n.least_neighbours))
