-- Rounding and powers of two: far from the format's smallest value, 2 ^ t times a fraction is rounded to 2 ^ t times what the fraction is
-- rounded to. So a multiplication by 2 ^ t can be done before the rounding. Assumes nothing.
use Rattle.std.proofs.Common.{◌≡◌, ℕ, zero, suc, ◌+◌, ◌-◌, ◌*◌, ◌/◌, ◌^◌, ◌<◌, ◌≤◌, Bool, true, false, cond, ltb, ◌⊎◌, pos, sym, refl, ap}
use Rattle.std.proofs.Common.{◌∙◌, subst, ⊎_elim, lt_of_le_of_lt, mul_assoc, mul_comm, mul-le-mul_left, mul-pos, one-mul, le-div_iff_mul-le}
use Rattle.std.proofs.Common.{zero-mul, mul-one, not-le_of_lt, arith, lit<, pow_pos, pow_mono, pow-add}
use native.Mathlib.Decide.{dec_lt}
use lib.Ieee.{Float, nan, inf, fin, Format, binary32, prec, low, up, down, size, odd, units, round, mul, fits}
use lib.Ieee.Digits.{size-lt}
use lib.Ieee.Fits.{down_pos, round_is, round-fits}
use lib.Ieee.Exact.{HasValue}
use lib.Ieee.Nearest.{closest, closest_same}
use lib.Ieee.Order.{drop, kept}
use lib.Ieee.Scale.{grid, overflow, round_same, grid_scale, normal_of_fraction}
use Rattle.lists.proofs.Tests.{from-T}
use Rattle.float32.specs.Float32.{abs}
use Rattle.float32.proofs.Rounding.{grid-under, round_val}
use Rattle.float32.proofs.Values.{mul-round}
use Rattle.float32.proofs.Canonical.{round-own}

-- ---- rounding knows the sign only to pass it on
abs-odd : (d : ℕ) (s : Bool) (q k l : ℕ) → abs (odd d s q k l) ≡ odd d false q k l
unfolding abs odd
abs-odd d s zero k l = refl
abs-odd d s (suc q) k l = refl

abs-units : (f : Format) (s : Bool) (q k : ℕ) → abs (units f s q k) ≡ units f false q k
unfolding units
abs-units f s q k = go (ltb (q * 2 ^ k) (overflow f))
  where
    go : (b : Bool) → abs (cond b (odd (suc (prec f)) s q k (low f)) (inf s)) ≡ cond b (odd (suc (prec f)) false q k (low f)) (inf false)
    go true = abs-odd (suc (prec f)) s q k (low f)
    go false = unfold abs in refl

pub abs-round : (f : Format) (s : Bool) (a c : ℕ) → abs (round f s a c) ≡ round f false a c
abs-round f s a c =
    ap abs (round_is f s a c)
    ∙ abs-units f s (kept (prec f) (a * 2 ^ low f) c) (drop (prec f) (a * 2 ^ low f) c)
    ∙ sym (round_is f false a c)

-- ---- what a float of binary32 is, rounded, is the float
pub round-held : (y : Float) (s : Bool) (a c : ℕ) → 0 < c → fits binary32 y ≡ true → HasValue y s a c → round binary32 s a c ≡ y
round-held nan s a c C f v = absurd v
round-held (inf t) s a c C f v = absurd v
round-held (fin t m e) s a c C f v =
    round_same binary32 s a c (m * up e) (down e) C (down_pos e) (sym v.1)
    ∙ ap (λ (z : Bool). round binary32 z (m * up e) (down e)) (sym v.0)
    ∙ round-own t m e f

-- ---- a / c is 0, or in the normal range: at least 2 ^ (prec - 1) of the format's smallest values
abbrev pub Normal : Format → ℕ → ℕ → Type 0
Normal f a c = (a ≡ 0) ⊎ (2 ^ (prec f - 1) * c ≤ a * 2 ^ low f)

pub grid-zero : (f : Format) (c : ℕ) → 0 < c → grid f 0 c ≡ 0
grid-zero f c C =
    let k = drop (prec f) (0 * 2 ^ low f) c in
    let none : 0 * 2 ^ low f ≡ 0 = zero-mul (2 ^ low f) in
    ap (λ (z : ℕ). closest z (c * 2 ^ k) * 2 ^ k) none
    ∙ ap (λ (z : ℕ). z * 2 ^ k) (closest_same 0 (c * 2 ^ k) 0 1 (mul-pos C (pow_pos k)) (lit< tt) (sym (zero-mul (c * 2 ^ k))))
    ∙ zero-mul (2 ^ k)

pub grid-times : (f : Format) (a c t : ℕ) → 0 < c → Normal f a c → grid f (a * 2 ^ t) c ≡ grid f a c * 2 ^ t
grid-times f a c t C n =
    ⊎_elim (λ e. subst (λ (z : ℕ). grid f (z * 2 ^ t) c ≡ grid f z c * 2 ^ t) (sym e) none)
    (λ h. grid_scale f a c t C (normal_of_fraction f a c C h)) n
  where
    none : grid f (0 * 2 ^ t) c ≡ grid f 0 c * 2 ^ t
    none =
        ap (λ (z : ℕ). grid f z c) (zero-mul (2 ^ t)) ∙ grid-zero f c C
        ∙ sym (ap (λ (z : ℕ). z * 2 ^ t) (grid-zero f c C) ∙ zero-mul (2 ^ t))

-- 2 ^ t times a rounded fraction
pub times-round : (a c t j : ℕ) → 0 < c → Normal binary32 a c → a * 2 ^ t < 2 ^ j * c → j ≤ 127
    → mul binary32 (fin false 1 (pos t)) (round binary32 false a c) ≡ round binary32 false (a * 2 ^ t) c
times-round a c t j C n far J =
    let L = 2 ^ 149 in
    let g = grid binary32 a c in
    let near : a < 2 ^ j * c = lt_of_le_of_lt (omega (arith, mul-le-mul_left a (pow_pos t), mul-one a)) far in
    let x = round_val binary32 false a c (grid-under binary32 a c j C J near) in
    let y = round_val binary32 false (a * 2 ^ t) c (grid-under binary32 (a * 2 ^ t) c j C J far) in
    mul-round binary32 (fin false 1 (pos t)) (round binary32 false a c) false false (2 ^ t) 1 g L (lit< tt) (pow_pos 149)
    (refl, (rw one-mul refl)) x
    ∙ round-held (round binary32 false (a * 2 ^ t) c) false (2 ^ t * g) (1 * L) (lit< tt)
    (from-T _ (round-fits binary32 false (a * 2 ^ t) c))
    (rw (one-mul, mul_comm (2 ^ t) g, ← grid-times binary32 a c t C n) y)

-- ---- what is rounded has zeros at its end
pub record Multiple (k n : ℕ) : Type 0 where
  pub times : ℕ
  pub is : n ≡ times * 2 ^ k

-- at least 2 ^ (prec - 1 + k) units are rounded to a multiple of 2 ^ k
pub grid-multiple : (f : Format) (a c k : ℕ) → 0 < c → 2 ^ (prec f - 1 + k) * c ≤ a * 2 ^ low f → Multiple k (grid f a c)
grid-multiple f a c k C h =
    let p = prec f in
    let n = a * 2 ^ low f in
    let d = drop p n c in
    let long = longer (p - 1 + k) (size (n / c)) (lt_of_le_of_lt ((le-div_iff_mul-le C).1 h) (size-lt (n / c))) in
    let e : d - k + k ≡ d = enough p k (size (n / c)) long in
    record {
      times = kept p n c * 2 ^ (d - k);
      is = ap (λ (z : ℕ). kept p n c * z) (ap (λ (z : ℕ). 2 ^ z) (sym e) ∙ pow-add 2 (d - k) k)
          ∙ sym (mul_assoc (kept p n c) (2 ^ (d - k)) (2 ^ k));
    }
  where
    longer : (i j : ℕ) → 2 ^ i < 2 ^ j → i < j
    longer i j l = elim (dec_lt i j) [ yes x ↦ x | no x ↦ absurd (not-le_of_lt l (pow_mono (omega arith))) ]

    enough : (p k z : ℕ) → p - 1 + k < z → z - p - k + k ≡ z - p
    enough p k z l = omega arith
