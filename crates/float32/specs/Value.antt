-- The number that a float stands for, as a signed fraction of naturals, and bounds and sums of naturals for use with
-- it.
use Rattle.std.specs.Prelude.{◌≡◌, ℕ, suc, ◌+◌, ◌-◌, ◌*◌, ◌≤◌, cond, T, ℤ, pos, negsuc, Float}
use Rattle.std.specs.Float.{nan, inf, fin}
use Rattle.std.specs.Float.Ieee.{up}
use Rattle.std.specs.Float.Ieee.Positive.{den}
use Rattle.std.specs.Float.Ieee.Scale.{finite}

-- ---- a finite x is (gain x - loss x) / den x, where one of the two is 0
abbrev pub gain : Float → ℕ
gain nan = 0
gain (inf s) = 0
gain (fin s m e) = cond s 0 (m * up e)

abbrev pub loss : Float → ℕ
loss nan = 0
loss (inf s) = 0
loss (fin s m e) = cond s (m * up e) 0

-- x is finite, and x = (p - n) / c, for a c above 0
pub record IsValue (x : Float) (p n c : ℕ) : Type 0 where
  pub is_finite : T (finite x)
  pub equal : gain x * c + n * den x ≡ p * den x + loss x * c

-- x is finite, and |x - (p - n) / c| ≤ r / c, for a c above 0
pub record Within (x : Float) (p n c r : ℕ) : Type 0 where
  pub is_finite : T (finite x)
  pub at_most : gain x * c + n * den x ≤ (p + r) * den x + loss x * c
  pub at_least : p * den x + loss x * c ≤ gain x * c + (n + r) * den x

-- x is finite, and is the natural number k
abbrev pub IsWhole : Float → ℕ → Type 0
IsWhole x k = IsValue x k 0 1

-- ---- integers and naturals
-- an integer z is plus_part z - minus_part z, where one of the two is 0
abbrev pub plus_part : ℤ → ℕ
plus_part (pos n) = n
plus_part (negsuc n) = 0

abbrev pub minus_part : ℤ → ℕ
minus_part (pos n) = 0
minus_part (negsuc n) = suc n

-- |a - b|
abbrev pub dist : ℕ → ℕ → ℕ
dist a b = (a - b) + (b - a)

-- f 0 + f 1 + .. + f (n - 1)
unfoldable pub total : (ℕ → ℕ) → ℕ → ℕ
total f ℕ.zero = 0
total f (suc n) = total f n + f n
