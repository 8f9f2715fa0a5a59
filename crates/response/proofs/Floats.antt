-- The floats of a response. The difference of two whole numbers depends only on its value, and 16 times the difference of the means can be
-- computed with the factor in the means. Assumes nothing.
use mathlib.Core.Path.{◌≡◌, refl, sym, ap, ◌∙◌, subst}
use mathlib.Core.Logic.{inl, inr, ⊎_elim}
use mathlib.Core.Bool.{true, false, cond, true≢false}
use Prim.Native.Nat.{ℕ, zero, suc, ◌+◌, ◌-◌, ◌*◌, ◌^◌, ◌<◌, ◌≤◌}
use native.Mathlib.Nat.{add-mul, mul_assoc, mul-one, mul_right_comm, mul-pos, mul-lt-mul_of_pos_right, mul-le-mul_right, eq-zero-or-pos}
use native.Mathlib.Nat.{le_trans, lt_of_lt_of_le, lt_of_mul-lt-mul_right, le_of_mul-le-mul_right, zero-lt-suc}
use native.Mathlib.Decide.{dec_lt}
use native.Mathlib.Omega.{arith}
use borrow.Author.Tests.{lt-ltb, le-ltb}
use lib.Dec.{ltb, lit<, lit≤}
use lib.IntN.{negsuc}
use lib.Pow.{pow_pos}
use lib.Ieee.{Float, nan, inf, fin, Format, binary32, up, down, round, sub, mul, div}
use lib.Ieee.Fits.{down_pos}
use lib.Ieee.Exact.{HasValue, round_exact}
use lib.Ieee.Scale.{grid, round_same}
use Rattle.float32.specs.Float32.{abs, float_of}
use Rattle.float32.specs.Value.{dist}
use Rattle.float32.proofs.Poly.{poly}
use Rattle.float32.proofs.Rounding.{grid-near, grid-under, round_val}
use Rattle.float32.proofs.Values.{spread, of_int-value}
use Rattle.float32.proofs.Bounds.{whole-over, div-round}
use Rattle.float32.proofs.Powers.{Normal, Multiple, abs-round, grid-zero, grid-times, times-round, grid-multiple}
use Rattle.response.specs.Response.{sixteen, five, ring_mean, cross_mean, response_of}

-- ---- a difference
-- a difference that is rounded, with the sign of the greater
rounded : Format → ℕ → ℕ → ℕ → Float
rounded f a b c = cond (ltb a b) (round f true (b - a) c) (round f false (a - b) c)

-- the same two numbers over another denominator
over : (f : Format) (A B C a b c : ℕ) → 0 < C → 0 < c → A * c ≡ a * C → B * c ≡ b * C → rounded f A B C ≡ rounded f a b c
unfolding rounded
over f A B C a b c P Q p q =
    elim (dec_lt a b) [
      | yes l ↦
          let wide : A < B = lt_of_mul-lt-mul_right c (omega (arith, mul-lt-mul_of_pos_right l P)) in
          rw (lt-ltb A B wide, lt-ltb a b l)
          (round_same f true (B - A) C (b - a) c P Q (omega (arith, spread c B A, spread C b a)))
      | no g ↦
          let narrow : b ≤ a = omega arith in
          let wide : B ≤ A = le_of_mul-le-mul_right (omega (arith, mul-le-mul_right C narrow)) Q in
          rw (le-ltb A B wide, le-ltb a b narrow)
          (round_same f false (A - B) C (a - b) c P Q (omega (arith, spread c A B, spread C a b)))
    ]

sub-rounded : (f : Format) (x y : Float) (a c b d : ℕ) → 0 < c → 0 < d → HasValue x false a c → HasValue y false b d
    → sub f x y ≡ rounded f (a * d) (b * c) (c * d)
unfolding sub rounded
sub-rounded f nan y a c b d C D v w = absurd v
sub-rounded f (inf s) y a c b d C D v w = absurd v
sub-rounded f (fin s m e) nan a c b d C D v w = absurd w
sub-rounded f (fin s m e) (inf t) a c b d C D v w = absurd w
sub-rounded f (fin true m e) (fin t n i) a c b d C D v w = absurd (true≢false v.0)
sub-rounded f (fin false m e) (fin true n i) a c b d C D v w = absurd (true≢false w.0)
sub-rounded f (fin false m e) (fin false n i) a c b d C D v w =
    over f (m * up e * down i) (n * up i * down e) (down e * down i) (a * d) (b * c) (c * d) (mul-pos (down_pos e) (down_pos i))
    (mul-pos C D) (crossed (m * up e) (down e) a c (down i) d v.1)
    (swapped (n * up i) (down i) b d (down e) c w.1)
  where
    -- X / E is a / c
    crossed : (X E a c I d : ℕ) → X * c ≡ a * E → X * I * (c * d) ≡ a * d * (E * I)
    crossed X E a c I d e = simp poly (simp poly at (ap (λ (z : ℕ). z * (I * d)) e))

    swapped : (X E a c I d : ℕ) → X * c ≡ a * E → X * I * (d * c) ≡ a * d * (I * E)
    swapped X E a c I d e = simp poly (simp poly at (ap (λ (z : ℕ). z * (I * d)) e))

sub-whole : (f : Format) (x y : Float) (a b : ℕ) → HasValue x false a 1 → HasValue y false b 1 → sub f x y ≡ rounded f a b 1
sub-whole f x y a b v w = sub-rounded f x y a 1 b 1 (lit< tt) (lit< tt) v w ∙ rw (mul-one a, mul-one b) refl

abs-rounded : (f : Format) (a b c : ℕ) → abs (rounded f a b c) ≡ round f false (dist a b) c
unfolding rounded
abs-rounded f a b c =
    elim (dec_lt a b) [
      | yes l ↦ let by : b - a ≡ dist a b = omega arith in rw (lt-ltb a b l, ← by) (abs-round f true (b - a) c)
      | no g ↦
          let narrow : b ≤ a = omega arith in
          let by : a - b ≡ dist a b = omega arith in
          rw (le-ltb a b narrow, ← by) (abs-round f false (a - b) c)
    ]

-- a - b = c - d
module _ (a b c d : ℕ) (same : a + d ≡ c + b) where
  rounded-same : (f : Format) → rounded f a b 1 ≡ rounded f c d 1
  unfolding rounded
  rounded-same f =
      elim (dec_lt a b) [
        | yes l ↦
            let less : c < d = omega arith in
            let by : b - a ≡ d - c = omega arith in
            rw (lt-ltb a b l, lt-ltb c d less, by)
        | no g ↦
            let more : b ≤ a = omega arith in
            let still : d ≤ c = omega arith in
            let by : a - b ≡ c - d = omega arith in
            rw (le-ltb a b more, le-ltb c d still, by)
      ]

  pub same-response : a < 16777216 → b < 16777216 → c < 16777216 → d < 16777216 → (sum cross : ℕ)
      → response_of a b sum cross ≡ response_of c d sum cross
  unfolding response_of
  same-response p q r s sum cross =
      let first = sub-whole binary32 (float_of a) (float_of b) a b (of_int-value binary32 a p) (of_int-value binary32 b q) in
      let second = sub-whole binary32 (float_of c) (float_of d) c d (of_int-value binary32 c r) (of_int-value binary32 d s) in
      rw (first ∙ rounded-same binary32 ∙ sym second)

-- ---- 16 times the difference of the means, with the factor in the means
-- 5 / 16
abbrev pub five_sixteenths : Float
five_sixteenths = fin false 5 (negsuc 3)

-- a fifth of a whole number has many zeros at its end, in units of 2 ^ -149
fifth-multiple : (n : ℕ) → Multiple 27 (grid binary32 n 5)
fifth-multiple zero = record { times = 0; is = grid-zero binary32 5 (lit< tt) }
fifth-multiple (suc n) =
    grid-multiple binary32 (suc n) 5 27 (lit< tt) (le_trans (lit≤ {m = 2 ^ 50 * 5} tt) (mul-le-mul_right (2 ^ 149) (zero-lt-suc n)))

fifth-small : (n : ℕ) → n < 65536 → grid binary32 n 5 ≤ 65536 * 2 ^ 149
fifth-small n h =
    bound (grid binary32 n 5) n (2 ^ 149) (2 ^ 141) (lit≤ tt) h (grid-near binary32 n 5 16 (lit< tt) (omega arith)).0
  where
    bound : (g n L u : ℕ) → u ≤ L → n < 65536 → g * 5 * 2 ≤ n * L * 2 + 5 * u → g ≤ 65536 * L
    bound g n L u l h e = let x : n * L ≤ 65535 * L = mul-le-mul_right L (omega arith) in omega arith

-- the difference of two multiples
dist-times : (a b k : ℕ) → dist (a * k) (b * k) ≡ dist a b * k
dist-times a b k = omega (arith, spread k a b, spread k b a, add-mul (a - b) (b - a) k)

-- it is 0, or not small
multiple-normal : (n : ℕ) → Multiple 27 n → Normal binary32 n (16 * 2 ^ 149)
multiple-normal n m = ⊎_elim none some (eq-zero-or-pos m.times)
  where
    none : m.times ≡ 0 → Normal binary32 n (16 * 2 ^ 149)
    none e = inl (m.is ∙ ap (λ (z : ℕ). z * 2 ^ 27) e)

    some : 0 < m.times → Normal binary32 n (16 * 2 ^ 149)
    some l = let far : 2 ^ 27 ≤ n = omega (arith, m.is, mul-le-mul_right (2 ^ 27) l) in inr (mul-le-mul_right (2 ^ 149) far)

module _ (sum cross : ℕ) (small : sum < 65536) (few : cross < 65536) where
  ring-value : HasValue (ring_mean sum) false sum 16
  ring-value =
      subst (λ (z : Float). HasValue z false sum 16)
      (sym (div-round binary32 (float_of sum) sixteen sum 16 1 (lit< tt) (lit< tt) (of_int-value binary32 sum (omega arith)) (refl, refl)))
      (round_exact binary32 false sum 16 sum 145 (lit< tt) (omega arith)
      (lt_of_lt_of_le (mul-lt-mul_of_pos_right small (pow_pos 145)) (lit≤ tt)) (sym (mul_assoc sum (2 ^ 145) 16)))

  cross-value : HasValue (cross_mean cross) false (grid binary32 cross 5) (2 ^ 149)
  cross-value =
      subst (λ (z : Float). HasValue z false (grid binary32 cross 5) (2 ^ 149))
      (sym (div-round binary32 (float_of cross) five cross 5 1 (lit< tt) (lit< tt) (of_int-value binary32 cross (omega arith))
      (refl, refl)))
      (round_val binary32 false cross 5 (grid-under binary32 cross 5 16 (lit< tt) (lit≤ tt) (omega arith)))

  cross-times : HasValue (div binary32 (float_of cross) five_sixteenths) false (grid binary32 cross 5 * 16) (2 ^ 149)
  cross-times =
      subst (λ (z : Float). HasValue z false (grid binary32 cross 5 * 16) (2 ^ 149))
      (sym (div-round binary32 (float_of cross) five_sixteenths (cross * 16) 5 16 (lit< tt) (lit< tt)
      (whole-over (float_of cross) cross 16 (of_int-value binary32 cross (omega arith))) (refl, refl)))
      (subst (λ (z : ℕ). HasValue (round binary32 false (cross * 16) 5) false z (2 ^ 149)) (grid-times binary32 cross 5 4 (lit< tt) normal)
      (round_val binary32 false (cross * 16) 5 (grid-under binary32 (cross * 16) 5 20 (lit< tt) (lit≤ tt) (omega arith))))
    where
      normal : Normal binary32 cross 5
      normal = ⊎_elim (λ e. inl e) (λ l. inr (le_trans (lit≤ {m = 2 ^ 23 * 5} tt) (mul-le-mul_right (2 ^ 149) l))) (eq-zero-or-pos cross)

  apart : Multiple 27 (dist (sum * 2 ^ 149) (grid binary32 cross 5 * 16))
  apart =
      let m = fifth-multiple cross in
      let x : sum * 2 ^ 149 ≡ sum * 2 ^ 122 * 2 ^ 27 = sym (mul_assoc sum (2 ^ 122) (2 ^ 27)) in
      let y : grid binary32 cross 5 * 16 ≡ m.times * 16 * 2 ^ 27 =
      ap (λ (z : ℕ). z * 16) m.is ∙ mul_right_comm m.times (2 ^ 27) 16 in
      record {
        times = dist (sum * 2 ^ 122) (m.times * 16);
        is = ap (λ (z : ℕ). dist z (grid binary32 cross 5 * 16)) x ∙ ap (λ (z : ℕ). dist (sum * 2 ^ 122 * 2 ^ 27) z) y
            ∙ dist-times (sum * 2 ^ 122) (m.times * 16) (2 ^ 27);
      }

  near : (G L : ℕ) → 0 < L → G ≤ 65536 * L → dist (sum * L) (G * 16) * 16 < 2 ^ 30 * (16 * L)
  near G L P g = let x : sum * L ≤ 65536 * L = mul-le-mul_right L (omega arith) in omega arith

  pub means : mul binary32 sixteen (abs (sub binary32 (ring_mean sum) (cross_mean cross)))
      ≡ abs (sub binary32 (float_of sum) (div binary32 (float_of cross) five_sixteenths))
  means =
      let G : ℕ = grid binary32 cross 5 in
      let L : ℕ = 2 ^ 149 in
      let n : ℕ = dist (sum * L) (G * 16) in
      let first = sub-rounded binary32 (ring_mean sum) (cross_mean cross) sum 16 G L (lit< tt) (pow_pos 149) ring-value cross-value in
      let second = sub-rounded binary32 (float_of sum) (div binary32 (float_of cross) five_sixteenths) sum 1 (G * 16) L (lit< tt)
      (pow_pos 149)
      (of_int-value binary32 sum (omega arith)) cross-times in
      ap (λ (z : Float). mul binary32 sixteen (abs z)) first
      ∙ ap (λ (z : Float). mul binary32 sixteen z) (abs-rounded binary32 (sum * L) (G * 16) (16 * L))
      ∙ times-round n (16 * L) 4 30 (lit< tt) (multiple-normal n apart) (near G L (pow_pos 149) (fifth-small cross few)) (lit≤ tt)
      ∙ round_same binary32 false (n * 16) (16 * L) n L (lit< tt) (pow_pos 149) (mul_assoc n 16 L)
      ∙ sym (abs-rounded binary32 (sum * L) (G * 16) L)
      ∙ ap (λ (z : ℕ). abs (rounded binary32 (sum * L) z L)) (sym (mul-one (G * 16)))
      ∙ sym (ap abs second)
