-- A float times a power of two is exact. Assumes nothing.
use Rattle.std.proofs.Common.{◌≡◌, ℕ, ◌*◌, ◌^◌, ◌≤◌, Bool, true, false, ℤ, pos, refl, lt_of_le_of_lt, one-mul, mul-one, arith, lit<, lt→ltb}
use Rattle.std.proofs.Common.{pow_mono}
use lib.Ieee.{fin, binary32, up, down, mul, fits, of_int}
use lib.Ieee.Fits.{down_pos, of_int-fits}
use lib.Ieee.Back.{round_whole, whole_unique}
use lib.Ieee.Exact.{HasValue}
use Rattle.float32.proofs.Values.{same_sign}
use Rattle.float32.proofs.Canonical.{far-below, round-shifted}

-- the float 2 ^ k
pub power-float : (k : ℕ) → k ≤ 24 → of_int binary32 (pos (2 ^ k)) ≡ fin false 1 (pos k)
unfolding of_int fits
power-float k h =
    whole_unique binary32 (of_int binary32 (pos (2 ^ k))) (fin false 1 (pos k)) false (2 ^ k) (of_int-fits binary32 (pos (2 ^ k)))
    (lt→ltb (1 * 2 ^ k) (2 ^ 128) (rw one-mul (lt_of_le_of_lt (pow_mono h) (lit< {m = 2 ^ 24} tt))))
    (round_whole binary32 false (2 ^ k) (pow_mono h)) (refl, simp (one-mul, mul-one))

pub scaled : (s : Bool) (m : ℕ) (e : ℤ) (k : ℕ) → fits binary32 (fin s m e) ≡ true → m * up e * 2 ^ k ≤ 2 ^ 24 * down e
    → HasValue (mul binary32 (fin s m e) (fin false 1 (pos k))) s (m * up e * 2 ^ k) (down e)
unfolding mul
scaled s m e k f small =
    rw (same_sign s, one-mul, mul-one)
    (round-shifted s m e k f (far-below (m * up e * 2 ^ k) (down e) (down_pos e) (omega (arith, small))) (m * up e * 2 ^ k)
    (down e) (down_pos e) refl)
