-- One cell of a response map: its weight in units against its exact fifths above 0. Assumes nothing.
use Prim.Native.Nat.{ℕ, zero, suc, ◌+◌, ◌*◌, ◌^◌, ◌≤◌, ◌<◌}
use native.Mathlib.Nat.{zero-mul, mul-suc, mul-le-mul_right, le_of_mul-le-mul_right}
use native.Mathlib.Omega.{arith}
use mathlib.Core.Path.{◌≡◌, sym, ap, subst}
use mathlib.Core.Bool.{false}
use lib.Dec.{T, lt→ltb, ltb→lt}
use lib.IntN.{ℤ, pos, negsuc}
use lib.Ieee.{Float, binary32, low, lt}
use lib.Ieee.Bits.{is_true}
use lib.Ieee.Positive.{den, den_pos}
use Rattle.lists.proofs.Tests.{to-T, is_false}
use Rattle.float32.specs.Float32.{zero as zero32, lift}
use Rattle.float32.specs.Value.{gain, loss, IsValue, Within, plus_part}
use Rattle.float32.proofs.Poly.{poly}
use Rattle.float32.proofs.Classes.{lift-above, lift-rest}
use Rattle.float32.proofs.Values.{of-HasValue}
use Rattle.float32.proofs.Approx.{FracWithin}
use Rattle.float32.proofs.Units.{Units, units_of}
use Rattle.accuracy.specs.Accurate.{Accurate}
use Rattle.center_of_mass.proofs.Weights.{Usual, weighs}
use Rattle.tolerance.proofs.Means.{Alike}

-- what a float lies within, of the fraction that it is
within-frac : (x : Float) (P N D p n c r : ℕ) → IsValue x P N D → Within x p n c r → FracWithin P N D p n c r
within-frac x P N D p n c r v w = over (gain x) (loss x) (den x) (den_pos x) v.equal w.at_most w.at_least
  where
    over : (G L d : ℕ) → 0 < d → G * D + N * d ≡ P * d + L * D → G * c + n * d ≤ (p + r) * d + L * c → p * d + L * c ≤ G * c + (n + r) * d
        → FracWithin P N D p n c r
    over G L d K e h k =
        let e' = simp poly at (ap (λ (z : ℕ). z * c) e) in
        let h' = simp poly at (mul-le-mul_right D h) in
        let k' = simp poly at (mul-le-mul_right D k) in
        (le_of_mul-le-mul_right (simp poly (omega arith)) K, le_of_mul-le-mul_right (simp poly (omega arith)) K)

-- a weight above 0 is one fifth or more, so an error of 1 / 1024 is at most 5 parts in 1024 of it
alike_of : (L b E : ℕ) → FracWithin b 0 L (1024 * suc E) (1024 * 0) 5120 5 → Alike L b (suc E)
alike_of L b E w = (omega (arith, mul-suc L E, w), omega (arith, mul-suc L E, w))

-- a cell that is not above 0 has no weight
no-units : units_of zero32 ≡ 0
unfolding units_of
no-units = zero-mul _

alike-none : (L : ℕ) (x : Float) → (T (lt zero32 x) → ⊥) → Alike L (units_of (lift x)) 0
alike-none L x h = rw (← lift-rest x (is_false (lt zero32 x) (λ e. h (to-T e))), no-units) (omega arith, omega arith)

pub alike-cell : (x : Float) (E : ℤ) → Usual x → Accurate x E → Alike (2 ^ low binary32) (units_of (lift x)) (plus_part E)
alike-cell x (pos zero) u a = alike-none (2 ^ low binary32) x (λ h. let z = ltb→lt 0 0 (a.positive.0 h).lt in omega arith)
alike-cell x (pos (suc E)) u a =
    let is = lift-above x (is_true (lt zero32 x) (a.positive.1 (record { lt = lt→ltb 0 (suc E) (omega arith) }))) in
    let v = of-HasValue x false (units_of x) (2 ^ low binary32)
    (subst (λ (z : Float). Units binary32 z (units_of z)) (sym is) (weighs x u).0) in
    rw (← is) (alike_of (2 ^ low binary32) (units_of x) E
    (within-frac x (units_of x) 0 (2 ^ low binary32) (1024 * suc E) (1024 * 0) 5120 5 v a.near))
alike-cell x (negsuc n) u a = alike-none (2 ^ low binary32) x (λ h. (a.positive.0 h).lt)
