-- Rust's operators, as the original's text uses them. An `i32` is an integer: for arguments that are not refused, no
-- sum reaches 2^26 in absolute value. A `usize` is a natural number.
use Rattle.std.specs.Prelude.{ℕ, suc, ◌+◌, ◌-◌, ◌*◌, ◌/◌, ◌^◌, ◌≡◌, ◌⊎◌, Bool, true, false, cond, ◌&&◌, List, map, ltb}
use Rattle.std.specs.Prelude.{ℤ, pos, negsuc, Float}
use Rattle.std.proofs.Math.IntN.{sub_ℕ}
use Rattle.std.specs.Int.Signed.{lt_z, le_z}
use Rattle.std.specs.Float.{nan, inf, fin, binary32}
use Rattle.std.specs.Float.Ieee.{up, down, lt, round, is_nan, to_unsigned, to_signed}
use Rattle.lists.specs.Places.{range}
use Rattle.float32.specs.Float32.{nearest_whole}

-- ---- integers

-- `z as usize`: a negative number counts down from 2^64
abbrev pub as_usize : ℤ → ℕ
as_usize (pos n) = n
as_usize (negsuc n) = 2 ^ 64 - suc n

-- `a - b` of two `usize`, in a build without overflow checks
abbrev pub less_usize : ℕ → ℕ → ℕ
less_usize a b = cond (ltb a b) (2 ^ 64 + a - b) (a - b)

-- `a == b`, `a.max(b)`, `z.clamp(low, high)`
abbrev pub eq_z : ℤ → ℤ → Bool
eq_z a b = le_z a b && le_z b a

abbrev pub max_z : ℤ → ℤ → ℤ
max_z a b = cond (lt_z a b) b a

abbrev pub clamp_z : ℤ → ℤ → ℤ → ℤ
clamp_z z low high = cond (lt_z z low) low (cond (lt_z high z) high z)

-- `-r..=r`
unfoldable pub around : ℕ → List ℤ
around r = map (λ (i : ℕ). sub_ℕ i r) (range 0 (2 * r + 1))

-- ---- floats

-- `x as usize`, `x as i32`
abbrev pub cut_usize : Float → ℕ
cut_usize x = to_unsigned 64 x

abbrev pub cut_i32 : Float → ℤ
cut_i32 x = to_signed 31 x

-- a whole number as a float, with a sign
abbrev pub whole_float : Bool → ℕ → Float
whole_float s n = round binary32 s n 1

-- a / c, rounded up to a whole number
abbrev pub up_to : ℕ → ℕ → ℕ
up_to a c = (a + (c - 1)) / c

-- `x.round()`
unfoldable pub round_f : Float → Float
round_f nan = nan
round_f (inf s) = inf s
round_f (fin s m e) = whole_float s (nearest_whole (fin s m e))

-- `x.floor()`
unfoldable pub floor_f : Float → Float
floor_f nan = nan
floor_f (inf s) = inf s
floor_f (fin s m e) = whole_float s (cond s (up_to (m * up e) (down e)) (m * up e / down e))

-- `x.ceil()`
unfoldable pub ceil_f : Float → Float
ceil_f nan = nan
ceil_f (inf s) = inf s
ceil_f (fin s m e) = whole_float s (cond s (m * up e / down e) (up_to (m * up e) (down e)))

-- r is what `x.max(y)` may give: one of the two, below neither, and NaN only if both are. For two zeros it may be
-- either
pub record IsMax (x y r : Float) : Type 0 where
  pub either : (r ≡ x) ⊎ (r ≡ y)
  pub not_below : (lt r x ≡ false) × (lt r y ≡ false)
  pub no_nan : is_nan r ≡ true → (is_nan x ≡ true) × (is_nan y ≡ true)
