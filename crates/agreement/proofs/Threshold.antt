-- Integers by their order, and exact values against a whole threshold. Assumes nothing.
use Prim.Native.Nat.{ℕ, ◌*◌, ◌<◌, ◌≤◌}
use native.Mathlib.Nat.{mul-lt-mul_of_pos_right, mul-le-mul_right, mul_assoc, lt_of_not-le}
use native.Mathlib.Omega.{arith}
use mathlib.Core.Path.{◌≡◌, refl, sym, ap, ◌∙◌, subst}
use mathlib.Core.Logic.{◌↔◌}
use mathlib.Core.Bool.{true, false, false≢true}
use lib.Dec.{ltb, ltb→lt, lt→ltb}
use borrow.Author.Tests.{ltb-true, ltb-false, lt-ltb}
use lib.IntN.{ℤ, pos, negsuc}
use lib.Signed.{◌<ℤ◌, lt_z}
use lib.Ieee.{Float, nan, inf, fin}
use lib.Ieee.Positive.{num, den, den_pos}
use lib.Ieee.Scale.{finite}
use Rattle.lists.proofs.Tests.{to-T, from-T, is_false, and_parts}
use Rattle.float32.specs.Value.{IsWhole}
use Rattle.detect.specs.Exact.{fifths_above}

-- ---- integers
pub less-is : (a b : ℤ) → (lt_z a b ≡ true) ↔ (a <ℤ b)
less-is a b = (λ e. record { lt = to-T e }, λ h. from-T _ h.lt)

-- neither is less
pub level : (a b : ℤ) → (lt_z a b ≡ true → ⊥) → (lt_z b a ≡ true → ⊥) → a ≡ b
level (pos a) (pos b) f g = let x = ltb-false a b (is_false _ f) in
    let y = ltb-false b a (is_false _ g) in
    ap pos (let e : a ≡ b = omega arith in e)
level (pos a) (negsuc b) f g = absurd (g refl)
level (negsuc a) (pos b) f g = absurd (f refl)
level (negsuc a) (negsuc b) f g = let x = ltb-false b a (is_false _ f) in
    let y = ltb-false a b (is_false _ g) in
    ap negsuc (let e : a ≡ b = omega arith in e)

-- ---- a whole threshold: its number, and what is above it
scaled : (a n d : ℕ) → 0 < d → (a * d < n * d) ↔ (a < n)
scaled a n d h =
    (λ l. lt_of_not-le (λ (q : n ≤ a). let z = mul-le-mul_right d q in let no : ⊥ = omega arith in no), λ l. mul-lt-mul_of_pos_right l h)

whole-number : (t : Float) (k : ℕ) → IsWhole t k → num t ≡ k * den t
whole-number nan k w = absurd w.is_finite
whole-number (inf s) k w = absurd w.is_finite
whole-number (fin true m e) k w = let q = w.equal in omega arith
whole-number (fin false m e) k w = let q = w.equal in omega arith

pub above-whole-fifths : (t : Float) (k : ℕ) (E : ℤ) → IsWhole t k → (fifths_above t E ≡ true) ↔ (pos (5 * k) <ℤ E)
unfolding fifths_above
above-whole-fifths t k (negsuc n) w = (λ q. absurd (false≢true q), λ q. absurd q.lt)
above-whole-fifths t k (pos n) w =
    let z : 5 * num t ≡ 5 * k * den t = ap (λ (x : ℕ). 5 * x) (whole-number t k w) ∙ sym (mul_assoc 5 k (den t)) in
    let c = scaled (5 * k) n (den t) (den_pos t) in (
      λ q. record { lt = lt→ltb _ _ (c.0 (subst (λ (x : ℕ). x < n * den t) z (ltb-true _ _ (and_parts (finite t) _ q).1))) },
      λ q.
          let l : ltb (5 * num t) (n * den t) ≡ true = lt-ltb _ _ (subst (λ (x : ℕ). x < n * den t) (sym z) (c.1 (ltb→lt _ _ q.lt))) in
          rw (from-T (finite t) w.is_finite, l),
    )
