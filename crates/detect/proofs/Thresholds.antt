-- Five times a threshold below 2,041 is exact in binary64, so cut off it is the fifths in the threshold. Assumes nothing.
use Rattle.std.proofs.Common.{◌≡◌, ℕ, suc, ◌*◌, ◌/◌, ◌^◌, ◌<◌, ◌≤◌, Bool, true, false, cond, T, ltb, ℤ, pos, negsuc, sym, refl, ap, ◌∙◌}
use Rattle.std.proofs.Common.{subst, true≢false, le_trans, lt_of_le_of_lt, mul_comm, arith, lit<, lit≤, ltb-false}
use native.Mathlib.Nat.{div-le_of_le-mul}
use lib.Ieee.{Float, nan, inf, fin, binary32, binary64, up, down, lt, le, mul, fits, to_unsigned}
use lib.Ieee.Fits.{down_pos, cond-fits}
use lib.Ieee.Positive.{num, den}
use Rattle.lists.proofs.Tests.{from-T, or-neither}
use Rattle.float32.specs.Float32.{zero, lift}
use Rattle.float32.specs.Value.{IsValue, dist}
use Rattle.float32.proofs.Approx.{Digits, scale-exact}
use Rattle.float32.proofs.Approx as approx
use Rattle.float32.proofs.Canonical.{own-low, exponent-le}
use Rattle.float32.proofs.Canonical as canonical
use Rattle.float32.proofs.Classes.{plus, lift-plus}
use Rattle.float32.proofs.Truncation.{cut-value}
use Rattle.float32.proofs.Values.{lt-value, sized}
use Rattle.detect.specs.Fifths.{above_all, fifths_under}

abbrev five : Float
five = fin false 5 (pos 0)

-- ---- below 2,041
pub below_all : (m : ℕ) (e : ℤ) → le above_all (fin false m e) ≡ false → m * up e ≤ 2041 * down e
unfolding le lt
below_all m e h = omega (arith, ltb-false (2041 * 1 * down e) (m * up e * 1) (or-neither (ltb (2041 * 1 * down e) (m * up e * 1)) _ h).0)

-- ---- the product
product : (m : ℕ) (e : ℤ) → fits binary32 (fin false m e) ≡ true → m * up e ≤ 2041 * down e
    → IsValue (mul binary64 five (fin false m e)) (5 * (m * up e)) (5 * 0) (down e)
product m (pos k) f l =
    scale-exact binary64 five (fin false m (pos k)) 5 (m * 2 ^ k) 0 0 (record { is_finite = tt; equal = refl })
    (approx.own (fin false m (pos k)) tt)
    (record { under = omega (arith, l); over = omega arith; fine = lit≤ tt })
product m (negsuc k) f l =
    scale-exact binary64 five (fin false m (negsuc k)) 5 (m * 1) 0 (suc k) (record { is_finite = tt; equal = refl })
    (approx.own (fin false m (negsuc k)) tt)
    (record {
      under = omega (arith, (canonical.own false m (negsuc k) f).0);
      over = omega arith;
      fine = le_trans (exponent-le (suc k) 149 (own-low false m (negsuc k) f)) (lit≤ tt);
    })

-- ---- cut off
module _ (v : Float) (p c : ℕ) (C : 0 < c) (l : p ≤ 2041 * c) (is : IsValue v (5 * p) (5 * 0) c) where
  few : 5 * p / c ≤ 10205
  few = div-le_of_le-mul c (omega (arith, mul_comm c 10205))

  above_minus_one : T (lt (fin true 1 (pos 0)) v)
  above_minus_one =
      (lt-value (fin true 1 (pos 0)) v 0 c (5 * p) (5 * 0) c C (record { is_finite = tt; equal = omega arith }) is).1 (omega arith)

  below-range : T (lt v (fin false 1 (pos 64)))
  below-range =
      (lt-value v (fin false 1 (pos 64)) (5 * p) (5 * 0) (2 ^ 64 * c) 0 c C is (record { is_finite = tt; equal = omega arith })).1
      (omega arith)

  cut : to_unsigned 64 v ≡ 5 * p / c
  cut =
      let z = sized v (5 * p) (5 * 0) c is in
      let d : dist (5 * p) (5 * 0) ≡ 5 * p = omega arith in
      cut-value 64 v z.sign (dist (5 * p) (5 * 0)) c C (λ e. omega (arith, z.minus e, d))
      (rw d (lt_of_le_of_lt few (lit< tt))) z.value
      ∙ ap (λ (a : ℕ). a / c) d

-- what cutting off asks, and what it gives
pub record CutOff (t : Float) : Type 0 where
  pub above : T (lt (fin true 1 (pos 0)) (mul binary64 five t))
  pub below : T (lt (mul binary64 five t) (fin false 1 (pos 64)))
  pub is : to_unsigned 64 (mul binary64 five t) ≡ fifths_under t

cut_off : (t : Float) → T (plus t) → fits binary32 t ≡ true → le above_all t ≡ false → CutOff t
unfolding le lt fifths_under
cut_off nan p f h = absurd p
cut_off (inf true) p f h = absurd p
cut_off (inf false) p f h = absurd (true≢false h)
cut_off (fin true m e) p f h = absurd p
cut_off (fin false m e) p f h =
    let l = below_all m e h in
    let v = mul binary64 five (fin false m e) in
    let is = product m e f l in record {
      above = above_minus_one v (m * up e) (down e) (down_pos e) l is;
      below = below-range v (m * up e) (down e) (down_pos e) l is;
      is = cut v (m * up e) (down e) (down_pos e) l is ∙ rw h;
    }

pub lifted-cut : (x : Float) → fits binary32 x ≡ true → le above_all (lift x) ≡ false → CutOff (lift x)
unfolding lift fits
lifted-cut x f h =
    cut_off (lift x) (lift-plus x) (from-T _ (cond-fits binary32 (lt zero x) x zero (subst T (sym f) tt) tt)) h

-- ---- they are few
pub fifths-few : (t : Float) → T (plus t) → fifths_under t ≤ 10205
unfolding fifths_under
fifths-few t p = go (le above_all t) t refl p
  where
    go : (b : Bool) (u : Float) → le above_all u ≡ b → T (plus u) → cond b 10205 (5 * num u / den u) ≤ 10205
    go true u h p = omega arith
    go false nan h p = absurd p
    go false (inf s) h p = lit≤ tt
    go false (fin true m e) h p = absurd p
    go false (fin false m e) h p = div-le_of_le-mul (down e) (omega (arith, below_all m e h, mul_comm (down e) 10205))
