-- `x.round() as i32` is the rounded number, for sizes up to 2^24. Assumes nothing.
use mathlib.Core.Path.{◌≡◌, refl, sym, ◌∙◌}
use mathlib.Core.Logic.{◌⊎◌, inl, inr}
use mathlib.Core.Bool.{Bool, true, false, cond, true≢false}
use Prim.Native.Nat.{ℕ, zero, suc, ◌+◌, ◌*◌, ◌/◌, ◌^◌, ◌≤◌, ◌<◌}
use native.Mathlib.Nat.{zero-mul, lt_of_le_of_lt, div-lt_iff_lt-mul, div-eq_of_lt, eq-zero-or-pos}
use native.Mathlib.Omega.{arith}
use lib.Dec.{lit<, le→leb, lt→ltb}
use lib.IntN.{ℤ, pos, neg_ℤ}
use lib.Ieee.{Float, nan, inf, fin, binary32, up, down, lt, le, round, of_int, to_signed, in_float}
use lib.Ieee.Back.{positive_back, negative_back}
use lib.Ieee.Fits.{down_pos}
use lib.Ieee.Positive.{num, den}
use borrow.Author.Tests.{lt-ltb, le-ltb}
use Rattle.float32.specs.Float32.{zero as zero32, abs, nearest_whole, signed, largest_rounded, round_half_away}
use Rattle.float32.specs.declared.Rounded.{Rounded}
use Rattle.float32.specs.declared.Rounded.TheVariants.{Natural, Negative, Beyond}
use Rattle.float32.proofs.HalfAway.{size-within}
use Rattle.published.specs.Rust.{cut_i32, round_f, whole_float}

-- the number that was rounded to
abbrev pub integer_of : Rounded → ℤ
integer_of (Natural n) = pos n
integer_of (Negative n) = neg_ℤ (pos n)
integer_of Beyond = pos 0

pub cut-whole : (s : Bool) (n : ℕ) → n ≤ 2 ^ 24 → cut_i32 (whole_float s n) ≡ cond s (neg_ℤ (pos n)) (pos n)
unfolding of_int in_float
cut-whole false n l = (positive_back binary32 31 n (le→leb n (2 ^ 24) l) (lt_of_le_of_lt l (lit< tt))).1
cut-whole true zero l = unfold round to_signed in refl
cut-whole true (suc k) l = (negative_back binary32 31 k (lt→ltb k (2 ^ 24) l) (omega arith)).1

nearest-small : (n d : ℕ) → 0 < d → n ≤ 2 ^ 24 * d → (2 * n + d) / (2 * d) ≤ 2 ^ 24
nearest-small n d p h = le-of-lt-suc ((div-lt_iff_lt-mul {k = 2 * d} {x = 2 * n + d} {y = 2 ^ 24 + 1} (omega arith)).1 (omega arith))
  where
    le-of-lt-suc : {a : ℕ} → a < 2 ^ 24 + 1 → a ≤ 2 ^ 24
    le-of-lt-suc l = omega arith

nearest-none : (n d : ℕ) → 0 < d → n ≡ 0 → (2 * n + d) / (2 * d) ≡ 0
nearest-none n d p h = div-eq_of_lt (omega arith)

-- a sign that says the number's, or any sign where the number is 0
signed_is : (b s : Bool) (n : ℕ) → (b ≡ s) ⊎ (n ≡ 0) → cond s (neg_ℤ (pos n)) (pos n) ≡ integer_of (signed b n)
signed_is true true zero h = refl
signed_is true true (suc n) h = refl
signed_is false false n h = refl
signed_is true false n (inl e) = absurd (true≢false e)
signed_is true false n (inr e) = rw e
signed_is false true n (inl e) = absurd (true≢false (sym e))
signed_is false true n (inr e) = rw e

sign-told : (s : Bool) (m : ℕ) (e : ℤ) → (lt (fin s m e) zero32 ≡ s) ⊎ (nearest_whole (fin s m e) ≡ 0)
unfolding lt nearest_whole
sign-told false m e = inl (le-ltb (m * up e * 1) (0 * 1 * down e) (omega (arith, zero-mul (down e))))
sign-told true m e = elim (eq-zero-or-pos (m * up e)) [
  | inl z ↦ inr (nearest-none (m * up e) (down e) (down_pos e) z)
  | inr p ↦ inl (lt-ltb 0 (m * up e * 1 + 0 * 1 * down e) (omega arith))
]

pub round_is : (x : Float) → le (abs x) largest_rounded ≡ true → cut_i32 (round_f x) ≡ integer_of (round_half_away x)
unfolding round_f round_half_away abs le
round_is nan h = absurd (true≢false (sym h))
round_is (inf s) h = absurd (true≢false (sym h))
round_is (fin s m e) h =
    rw h
    (cut-whole s (nearest_whole (fin s m e)) (small (fin s m e) (nearest-small (m * up e) (down e) (down_pos e) (size-within m e h)))
    ∙ signed_is (lt (fin s m e) zero32) s (nearest_whole (fin s m e)) (sign-told s m e))
  where
    small : (x : Float) → (2 * num x + den x) / (2 * den x) ≤ 2 ^ 24 → nearest_whole x ≤ 2 ^ 24
    small x l = unfold nearest_whole in l
