-- The cell number of a multiple of 1/64, for a radius that is a power of two: a quotient of whole numbers, since nothing is rounded. So two
-- that differ by at most the radius lie in adjacent cells. Assumes nothing.
use Prim.Native.Nat.{ℕ, ◌+◌, ◌-◌, ◌*◌, ◌/◌, ◌^◌, ◌≤◌, ◌<◌}
use native.Mathlib.Nat.{le_refl, lt_of_le_of_lt, mul-zero, add-zero, zero-add, mul-pos, mul-le-mul_right, div-le_self, div-lt_iff_lt-mul}
use native.Mathlib.Omega.{arith}
use mathlib.Core.Path.{◌≡◌, refl, sym, subst}
use mathlib.Core.Bool.{true, false}
use lib.Dec.{lit<}
use lib.IntN.{pos}
use lib.Pow.{pow_pos}
use lib.Ieee.{Float, fin, binary32, sub, mul, div}
use lib.Ieee.Exact.{HasValue}
use borrow.Author.Tests.{le-leb}
use Rattle.float32.specs.Value.{IsValue, dist}
use Rattle.float32.proofs.Poly.{poly}
use Rattle.float32.proofs.Values.{sized, plus-of-above, mul-frac}
use Rattle.float32.proofs.Approx.{sub-exact, round-exact-at, frac-exact}
use Rattle.float32.proofs.Bounds.{div-round}
use Rattle.float32.proofs.Truncation.{cut-value}
use Rattle.merge_grid.specs.Grid.{cell_of, within_one}
use Rattle.merge_alike.specs.Alike.{IsPower}
use Rattle.merge_alike.proofs.Multiples.{Sixtyfourths}
use Rattle.merge_alike.proofs.Distance.{apart}

abbrev pub one : Float
one = fin false 1 (pos 0)

-- quotients of numbers that differ by at most the divisor
quotients-adjacent : (a b R : ℕ) → 0 < R → a ≤ b + R → a / R ≤ b / R + 1
quotients-adjacent a b R K h =
    let below : b < (b / R + 1) * R = (div-lt_iff_lt-mul {k = R} K).0 (omega arith) in
    let q : a < (b / R + 1 + 1) * R = step (b / R + 1) below in
    let l : a / R < b / R + 1 + 1 = (div-lt_iff_lt-mul {k = R} K).1 q in
    omega arith
  where
    step : (n : ℕ) → b < n * R → a < (n + 1) * R
    step n l = let e = simp poly at (mul-le-mul_right R (le_refl (n + 1))) in simp poly (omega arith)

module _ (r : Float) (power : IsPower r) where
  abbrev R : ℕ
  R = 2 ^ power.exponent

  inverse : IsValue (div binary32 one r) 64 0 R
  inverse =
      let j = power.exponent in
      let J = power.at_most in
      subst (λ (z : Float). IsValue z 64 0 R)
      (sym (div-round binary32 one r 64 R 64 (lit< tt) (pow_pos j) (refl, refl)
      (subst (λ (n : ℕ). HasValue r false n 64) (none R) (plus-of-above r R 0 64 (pow_pos j) power.value))))
      (round-exact-at binary32 false 64 R 64 0 j (pow_pos j) refl
      (record { under = omega arith; over = omega arith; fine = omega (arith, J) }))
    where
      none : (n : ℕ) → n - 0 ≡ n
      none n = omega arith

  -- ---- the cell of x, from the least on
  module _ (x least : Float) (u : Sixtyfourths x) (m : ℕ) (low : IsValue least m 0 64) (from : m ≤ u.count) where
    abbrev product : Float
    product = mul binary32 (sub binary32 x least) (div binary32 one r)

    scaled : IsValue product u.count m R
    scaled =
        let k = u.count in
        let few = u.few in
        let J = power.at_most in
        let d = sub-exact binary32 x least k 0 m 0 6 u.value low
        (record { under = omega arith; over = omega arith; fine = omega arith }) in
        frac-exact binary32 product ((k + 0) * 64 + (0 + m) * 0) ((k + 0) * 0 + (0 + m) * 64) (64 * R) k m power.exponent
        (mul-pos (lit< tt) (pow_pos power.exponent))
        (mul-frac binary32 (sub binary32 x least) (div binary32 one r) (k + 0) (0 + m) 64 64 0 R d inverse) (turn k R)
        (record { under = omega arith; over = omega arith; fine = omega (arith, J) })
      where
        turn : (k P : ℕ) → ((k + 0) * 64 + (0 + m) * 0) * P + m * (64 * P) ≡ k * (64 * P) + ((k + 0) * 0 + (0 + m) * 64) * P
        turn k P = simp (add-zero, zero-add, mul-zero, poly)

    cell-is : cell_of least (div binary32 one r) x ≡ (u.count - m) / R
    cell-is =
        let k = u.count in
        let s = sized product k m R scaled in
        let size : dist k m ≡ k - m = omega arith in
        let none : s.sign ≡ true → k - m < R = λ e. let z : k - m ≡ 0 = omega (arith, s.minus e) in rw z (pow_pos power.exponent) in
        cut-value 64 product s.sign (k - m) R (pow_pos power.exponent) none
        (lt_of_le_of_lt (div-le_self (k - m) R) (omega (arith, u.few)))
        (subst (λ (n : ℕ). HasValue product s.sign n R) size s.value)

  -- ---- two that differ by at most the radius
  pub cells-adjacent : (x y least : Float) (u : Sixtyfourths x) (v : Sixtyfourths y) (m : ℕ) → IsValue least m 0 64 → m ≤ u.count
      → m ≤ v.count
      → apart x y u v ≤ R → within_one (cell_of least (div binary32 one r) x) (cell_of least (div binary32 one r) y) ≡ true
  cells-adjacent x y least u v m low a b d =
      let K = pow_pos power.exponent in
      let k = u.count in
      let l = v.count in
      rw (cell-is x least u m low a, cell-is y least v m low b)
      (rw (
        le-leb _ _ (quotients-adjacent (k - m) (l - m) R K (omega arith)),
        le-leb _ _ (quotients-adjacent (l - m) (k - m) R K (omega arith)),
      ))
