-- Counts by two tests that no member passes together, sums of a number of each member, and tests of two lists. Assumes nothing.
use mathlib.Core.Path.{◌≡◌, refl}
use mathlib.Core.Bool.{Bool, true, false, cond, ◌||◌}
use mathlib.Core.List.{List, [], ◌∷◌, ◌++◌}
use Prim.Native.Nat.{ℕ, ◌+◌, ◌≤◌}
use native.Mathlib.Omega.{arith}
use lib.ListN.{length}
use Rattle.lists.specs.Places.{keep, count, sum_of}

module _ {A : Type 0} where
  pub count_none : (f : A → Bool) (l : List A) → ((a : A) → f a ≡ false) → count f l ≡ 0
  unfolding count
  count_none f [] h = refl
  count_none f (a ∷ l) h = rw (h a) (count_none f l h)

  -- by either of two tests
  pub count-either : (f g : A → Bool) (l : List A) → ((a : A) → f a ≡ true → g a ≡ true → ⊥)
      → count (λ a. f a || g a) l ≡ count f l + count g l
  unfolding count
  count-either f g [] h = refl
  count-either f g (a ∷ l) h = pick (f a) (g a) (h a) (count-either f g l h)
    where
      pick : (b c : Bool) → (b ≡ true → c ≡ true → ⊥) → length (keep (λ a. f a || g a) l) ≡ length (keep f l) + length (keep g l)
          → length (cond (b || c) (a ∷ keep (λ a. f a || g a) l) (keep (λ a. f a || g a) l))
          ≡ length (cond b (a ∷ keep f l) (keep f l)) + length (cond c (a ∷ keep g l) (keep g l))
      pick true true never e = absurd (never refl refl)
      pick true false never e = omega arith
      pick false true never e = omega arith
      pick false false never e = e

module _ {A : Type 0} (X : A → ℕ) where
  pub sum-append : (s t : List A) → sum_of X (s ++ t) ≡ sum_of X s + sum_of X t
  sum-append [] t = omega arith
  sum-append (a ∷ s) t = omega (arith, sum-append s t)

  -- of numbers up to 1
  pub sum-few : (l : List A) → ((a : A) → X a ≤ 1) → sum_of X l ≤ length l
  sum-few [] h = omega arith
  sum-few (a ∷ l) h = omega (arith, h a, sum-few l h)
