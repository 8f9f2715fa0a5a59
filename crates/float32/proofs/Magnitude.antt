-- `abs` by one comparison with 0: 0.0 - x is exact, and +0.0 where x is a zero of either sign. Assumes nothing.
use Rattle.std.proofs.Common.{◌≡◌, ℕ, suc, ◌+◌, ◌*◌, ◌<◌, true, false, ℤ, sym, refl, ◌∙◌, true≢false, zero-lt-suc, mul-pos, one-mul}
use Rattle.std.proofs.Common.{zero-add, zero-mul, mul-one, arith, ltb-false}
use lib.Ieee.{Float, nan, inf, fin, binary32, up, down, sub, le, fits}
use lib.Ieee.Fits.{up_pos, down_pos}
use Rattle.lists.proofs.Tests.{to-T, or-neither}
use Rattle.float32.specs.Float32.{zero, abs}
use Rattle.float32.proofs.Bounds.{value-le}
use Rattle.float32.proofs.Canonical.{own-zero, fits-plain, round-own}

size-pos : (m : ℕ) (e : ℤ) → 0 < suc m * up e * 1
size-pos m e = rw mul-one (mul-pos (zero-lt-suc m) (up_pos e))

pub abs-below : (x : Float) → fits binary32 x ≡ true → le x zero ≡ true → sub binary32 zero x ≡ abs x
unfolding le sub abs
abs-below nan f h = absurd (true≢false (sym h))
abs-below (inf true) f h = refl
abs-below (inf false) f h = absurd (true≢false (sym h))
abs-below (fin true m e) f h = simp (zero-mul, zero-add, mul-one, one-mul) (round-own false m e (sym (fits-plain true m e) ∙ f))
abs-below (fin false ℕ.zero e) f h = rw (own-zero false e f) refl
abs-below (fin false (suc m) e) f h =
    absurd (let k = value-le (fin false (suc m) e) zero (suc m * up e) 0 (down e) (down_pos e) (refl, refl) (refl, zero-mul (down e))
    (to-T h) in let no : ⊥ = omega (arith, size-pos m e) in no)

pub abs-above : (x : Float) → le x zero ≡ false → x ≡ abs x
unfolding le abs
abs-above nan h = refl
abs-above (inf true) h = absurd (true≢false h)
abs-above (inf false) h = refl
abs-above (fin false m e) h = refl
abs-above (fin true ℕ.zero e) h = absurd (true≢false (simp zero-mul at h))
abs-above (fin true (suc m) e) h =
    absurd (let k = ltb-false 0 (suc m * up e * 1 + 0 * down e) (or-neither _ _ h).0 in omega (arith, size-pos m e))
