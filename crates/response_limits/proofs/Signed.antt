-- Differences of two numbers of 16 bits, as a signed number of 32. Assumes nothing.
use Prim.Native.Nat.{◌<◌}
use mathlib.Core.Path.{◌≡◌, ◌∙◌}
use lib.IntN.{ℤ}
use lib.Signed.{mag}
use mir.Syntax.{w32}
use mir.Val.{to_z, of_z}
use mir.ValLaws.{to_z-of_z}

-- a number of 32 bits, stored and read again
pub stored : (z v : ℤ) → mag z < 2147483648 → z ≡ v → to_z w32 (of_z w32 z) ≡ v
stored z v h e = to_z-of_z w32 z (record { sfits = h }) ∙ e
