-- Numbers of 32 bits compared in 64. Assumes nothing.
use Prim.Native.Nat.{ℕ, ◌*◌, ◌^◌, ◌<◌}
use native.Mathlib.Nat.{le_of_lt, lt_of_le_of_lt}
use native.Mathlib.Omega.{arith}
use mathlib.Core.Path.{◌≡◌, sym, ap, ap₂, ◌∙◌, subst}
use mathlib.Core.Bool.{Bool}
use lib.Dec.{lit<}
use lib.IntN.{ℤ, pos}
use lib.Signed.{mag, lt_z}
use mir.Syntax.{w32, w64}
use mir.Val.{to_z, of_z, SFits}
use mir.ValLaws.{to_z_pos, to_z-of_z}

pub cast_fits : (z : ℤ) → SFits w32 z → SFits w64 (to_z w32 (of_z w32 z))
cast_fits z f = subst (SFits w64) (sym (to_z-of_z w32 z f)) (record { sfits = lt_of_le_of_lt (le_of_lt f.sfits) (lit< tt) })

-- five times a threshold of 32 bits against a number of fifths
pub compared : (threshold : ℕ) (z : ℤ) → threshold < 2 ^ 32 → SFits w32 z
    → lt_z (to_z w64 (5 * threshold)) (to_z w64 (of_z w64 (to_z w32 (of_z w32 z)))) ≡ lt_z (pos (5 * threshold)) z
compared threshold z h f =
    ap₂ lt_z (to_z_pos w64 (5 * threshold) (omega arith)) (to_z-of_z w64 _ (cast_fits z f) ∙ to_z-of_z w32 z f)

-- a number of 32 bits that was stored and read again, in a test
pub read : (z : ℤ) → mag z < 2147483648 → to_z w32 (of_z w32 z) ≡ z
read z h = to_z-of_z w32 z (record { sfits = h })

pub test_read : (u z : ℤ) (b : Bool) → mag z < 2147483648 → lt_z u (to_z w32 (of_z w32 z)) ≡ b → lt_z u z ≡ b
test_read u z b h e = ap (lt_z u) (sym (read z h)) ∙ e
