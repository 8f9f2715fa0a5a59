-- The lists and the radii for which merging by distance alone and merging by cells leave the same list (RULES 31.4).
use Rattle.std.specs.Prelude.{ℕ, ◌^◌, ◌≤◌, Float}
use Rattle.float32.specs.Value.{IsValue}
use Rattle.corner_list.specs.declared.Corner.{Corner}

-- a multiple of 1/64, of either sign and of any size: (plus - minus) / 64. -0.0 is one
pub record IsMultiple (x : Float) : Type 0 where
  pub plus : ℕ
  pub minus : ℕ
  pub value : IsValue x plus minus 64

-- a power of two from the least merge radius to the largest: 2 ^ exponent / 64
pub record IsPower (radius : Float) : Type 0 where
  pub exponent : ℕ
  pub at_most : exponent ≤ 18
  pub value : IsValue radius (2 ^ exponent) 0 64

-- a corner whose coordinates are such multiples
pub record OnMultiples (c : Corner) : Type 0 where
  pub column : IsMultiple c.x
  pub row : IsMultiple c.y
