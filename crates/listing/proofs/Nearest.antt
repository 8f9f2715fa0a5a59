-- A coordinate in 256ths is a number of 64 bits: what is rounded is at most 2 ^ 24, and what is cut off fits. Assumes nothing.
use Prim.Native.Nat.{ℕ, suc, ◌+◌, ◌*◌, ◌/◌, ◌^◌, ◌≤◌, ◌<◌}
use native.Mathlib.Nat.{div-lt_iff_lt-mul}
use native.Mathlib.Omega.{arith}
use mathlib.Core.Path.{◌≡◌, refl, sym}
use mathlib.Core.Bool.{Bool, true, false, true≢false}
use lib.IntN.{pos}
use lib.Ieee.{Float, nan, inf, fin, binary32, up, down, mul, lt, le}
use lib.Ieee.Casts.{to_unsigned-lt}
use lib.Ieee.Fits.{down_pos}
use Rattle.float32.specs.Float32.{zero, abs, nearest_whole, is_judged, judged, signed, round_half_away}
use Rattle.float32.proofs.HalfAway.{size-within}
use Rattle.listing.specs.Text.{units_by, units_of}

whole-small : (n d : ℕ) → 0 < d → n ≤ 2 ^ 24 * d → (2 * n + d) / (2 * d) < 2 ^ 25
whole-small n d p h = (div-lt_iff_lt-mul {k = 2 * d} {x = 2 * n + d} {y = 2 ^ 25} (omega arith)).1 (omega arith)

judged-small : (a : Float) → is_judged a ≡ true → nearest_whole a < 2 ^ 25
unfolding nearest_whole abs le
judged-small nan h = absurd (true≢false (sym h))
judged-small (inf s) h = absurd (true≢false (sym h))
judged-small (fin s m e) h = whole-small (m * up e) (down e) (down_pos e) (size-within m e h)

by-rounding : (a : Float) (judge negative : Bool) (n : ℕ) → (judge ≡ true → n < 2 ^ 25)
    → units_by a (judged judge (signed negative n)) < 2 ^ 64
by-rounding a false negative n h = to_unsigned-lt 64 a
by-rounding a true false n h = omega (arith, h refl)
by-rounding a true true ℕ.zero h = omega arith
by-rounding a true true (suc n) h = omega arith

pub units-below : (x : Float) → units_of x < 2 ^ 64
unfolding units_of round_half_away
units-below x = let a = mul binary32 x (fin false 1 (pos 8)) in by-rounding a (is_judged a) (lt a zero) (nearest_whole a) (judged-small a)
