-- Finite values, NaN and its bit patterns, and the lifted threshold, by the cases of a value. Assumes nothing.
use Rattle.std.proofs.Common.{◌≡◌, ℕ, suc, ◌+◌, ◌*◌, ◌%◌, ◌<◌, ◌≤◌, Bool, true, false, cond, not, ◌&&◌, ◌||◌, T, eqb, ltb, sym, refl, ◌∙◌}
use Rattle.std.proofs.Common.{subst, true≢false, mul-pos, zero-mul, arith, lt→ltb, le-ltb, lt-ltb}
use native.Mathlib.Decide.{dec_lt}
use lib.Ieee.{Float, nan, inf, fin, binary32, lt, le, eq, up, down, of_bits, nan_bits, is_nan}
use lib.Ieee.Bits.{nan_bits_is, nan_bits_above}
use lib.Ieee.Fits.{up_pos}
use lib.Ieee.Scale.{finite}
use Rattle.std.specs.Float.{float_is_finite}
use Rattle.lists.proofs.Tests.{to-T-not}
use Rattle.float32.specs.Float32.{zero, lift}

-- ---- std's finite is the logic's
pub finite-is : (x : Float) → float_is_finite x ≡ finite x
unfolding float_is_finite
finite-is nan = refl
finite-is (inf s) = refl
finite-is (fin s m e) = refl

-- ---- no value is below itself
pub lt-self : (x : Float) → lt x x ≡ false
unfolding lt
lt-self nan = refl
lt-self (inf true) = refl
lt-self (inf false) = refl
lt-self (fin true m e) = le-ltb (m * up e * down e) (m * up e * down e) (omega arith)
lt-self (fin false m e) = le-ltb (m * up e * down e) (m * up e * down e) (omega arith)

-- ---- the lifted threshold
pub lift-above : (x : Float) → lt zero x ≡ true → x ≡ lift x
unfolding lift
lift-above x h = rw h

pub lift-rest : (x : Float) → lt zero x ≡ false → zero ≡ lift x
unfolding lift
lift-rest x h = rw h

-- a lifted threshold has no minus sign
abbrev pub plus : Float → Bool
plus nan = false
plus (inf s) = not s
plus (fin s m e) = not s

pub lift-plus : (t : Float) → T (plus (lift t))
unfolding lift lt
lift-plus nan = tt
lift-plus (inf true) = tt
lift-plus (inf false) = tt
lift-plus (fin true m e) = tt
lift-plus (fin false m e) = pick (lt zero (fin false m e))
  where
    pick : (b : Bool) → T (plus (cond b (fin false m e) zero))
    pick true = tt
    pick false = tt

-- and what is not at or below it is above 0, or NaN: a minus sign and a zero are at or below
minus-low : (a b : ℕ) → (ltb 0 (a + b) || (eqb a b && (false || eqb a 0))) ≡ true
minus-low a b =
    elim (dec_lt 0 (a + b)) [
      | yes l ↦ rw (lt-ltb 0 (a + b) l)
      | no g ↦ let p : a ≡ 0 = omega arith in let q : b ≡ 0 = omega arith in rw (p, q)
    ]

zero-low : (a b : ℕ) → a ≡ 0 → (ltb a b || (eqb a b && true)) ≡ true
zero-low a b e =
    elim (dec_lt 0 b) [
      | yes l ↦ rw (lt-ltb a b (omega arith))
      | no g ↦ let q : b ≡ 0 = omega arith in rw (e, q)
    ]

above-plus : (t x : Float) → T (plus t) → T (not (is_nan x)) → le x t ≡ false → lt zero x ≡ true
unfolding lt le eq is_nan
above-plus nan x p h e = absurd p
above-plus (inf true) x p h e = absurd p
above-plus (inf false) nan p h e = absurd h
above-plus (inf false) (inf true) p h e = absurd (true≢false e)
above-plus (inf false) (inf false) p h e = refl
above-plus (inf false) (fin s m d) p h e = absurd (true≢false e)
above-plus (fin true n c) x p h e = absurd p
above-plus (fin false n c) nan p h e = absurd h
above-plus (fin false n c) (inf true) p h e = absurd (true≢false e)
above-plus (fin false n c) (inf false) p h e = refl
above-plus (fin false n c) (fin true m d) p h e = absurd (true≢false (sym (minus-low (m * up d * down c) (n * up c * down d)) ∙ e))
above-plus (fin false n c) (fin false ℕ.zero d) p h e =
    let z : 0 * up d * down c ≡ 0 = rw (zero-mul, zero-mul) in
    absurd (true≢false (sym (zero-low (0 * up d * down c) (n * up c * down d) z) ∙ e))
above-plus (fin false n c) (fin false (suc m) d) p h e =
    let k : 0 < suc m * up d = mul-pos (omega arith) (up_pos d) in
    lt-ltb (0 * down d) (suc m * up d * 1) (omega arith)

pub above-lifted : (t x : Float) → T (not (is_nan x)) → le x (lift t) ≡ false → lt zero x ≡ true
above-lifted t x h e = above-plus (lift t) x (lift-plus t) h e

-- ---- NaN and its patterns
pub is-nan : (x : Float) → T (is_nan x) → nan ≡ x
unfolding is_nan
is-nan nan t = refl
is-nan (inf s) t = absurd t
is-nan (fin s m e) t = absurd t

pub nan_pattern : (n : ℕ) → 0x7f80_0000 < n % 0x8000_0000 → nan ≡ of_bits binary32 n
nan_pattern n h =
    is-nan (of_bits binary32 n) (subst T (sym (nan_bits_above binary32 n) ∙ nan_bits_is binary32 n)
    (lt→ltb 0x7f80_0000 (n % 0x8000_0000) h))

pub no-nan-pattern : (n : ℕ) → n % 0x8000_0000 ≤ 0x7f80_0000 → T (not (nan_bits binary32 n))
no-nan-pattern n h = to-T-not (nan_bits_above binary32 n ∙ le-ltb 0x7f80_0000 (n % 0x8000_0000) h)
