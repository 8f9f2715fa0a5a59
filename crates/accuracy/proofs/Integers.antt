-- Integers as differences of naturals. Assumes nothing.
use mathlib.Core.Path.{◌≡◌, refl, ap}
use mathlib.Core.Logic.{◌↔◌}
use mathlib.Core.Bool.{Bool, true, false, not, cond}
use Prim.Native.Nat.{ℕ, zero, suc, ◌+◌, ◌-◌, ◌*◌, ◌≤◌, ◌<◌}
use native.Mathlib.Omega.{arith}
use lib.Dec.{T, ltb, ltb→lt, lt→ltb, nltb→le}
use lib.IntN.{ℤ, pos, negsuc, neg_ℤ, sub_ℕ, ◌*ℤ◌}
use lib.Signed.{◌<ℤ◌}
use Rattle.float32.specs.Value.{plus_part, minus_part}

-- c - d is the difference of its parts
pub sub_parts : (c d : ℕ) → c + minus_part (sub_ℕ c d) ≡ plus_part (sub_ℕ c d) + d
sub_parts c d = go (ltb c d) (ltb→lt c d) (nltb→le c d)
  where
    go : (w : Bool) → (T w → c < d) → (T (not w) → d ≤ c)
        → c + minus_part (cond w (negsuc (d - suc c)) (pos (c - d))) ≡ plus_part (cond w (negsuc (d - suc c)) (pos (c - d))) + d
    go true h k = let x = h tt in omega arith
    go false h k = let x = k tt in omega arith

pub plus-le : (c d : ℕ) → plus_part (sub_ℕ c d) ≤ c
plus-le c d = go (ltb c d)
  where
    go : (w : Bool) → plus_part (cond w (negsuc (d - suc c)) (pos (c - d))) ≤ c
    go true = omega arith
    go false = omega arith

pub minus-le : (c d : ℕ) → minus_part (sub_ℕ c d) ≤ d
minus-le c d = go (ltb c d) (ltb→lt c d)
  where
    go : (w : Bool) → (T w → c < d) → minus_part (cond w (negsuc (d - suc c)) (pos (c - d))) ≤ d
    go true h = let x = h tt in omega arith
    go false h = omega arith

pub less-parts : (a b : ℤ) → (a <ℤ b) ↔ (plus_part a + minus_part b < plus_part b + minus_part a)
less-parts (pos a) (pos b) = (λ h. let x = ltb→lt a b h.lt in omega arith, λ h. record { lt = lt→ltb a b (omega arith) })
less-parts (pos a) (negsuc b) = (λ h. absurd h.lt, λ h. absurd (omega arith))
less-parts (negsuc a) (pos b) = (λ h. omega arith, λ h. record { lt = tt })
less-parts (negsuc a) (negsuc b) = (λ h. let x = ltb→lt b a h.lt in omega arith, λ h. record { lt = lt→ltb b a (omega arith) })

neg-parts : (m : ℕ) → (plus_part (neg_ℤ (pos m)) ≡ 0) × (minus_part (neg_ℤ (pos m)) ≡ m)
neg-parts zero = (refl, refl)
neg-parts (suc m) = (refl, refl)

pub five-parts : (z : ℤ) → (plus_part (pos 5 *ℤ z) ≡ 5 * plus_part z) × (minus_part (pos 5 *ℤ z) ≡ 5 * minus_part z)
five-parts (pos n) = (refl, refl)
five-parts (negsuc n) = neg-parts (5 * suc n)

-- a whole number of fives, where the parts say so
pub five-times : (E : ℤ) (k : ℕ) → plus_part E ≡ 5 * k + minus_part E → E ≡ pos (5 * k)
five-times (pos n) k e = ap pos (omega arith)
five-times (negsuc n) k e = absurd (omega arith)
