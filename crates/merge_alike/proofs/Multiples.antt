-- Multiples of 1/64 that lie from 0 to the largest coordinate: so many 64ths. Assumes nothing.
use Prim.Native.Nat.{ℕ, ◌+◌, ◌-◌, ◌≤◌}
use native.Mathlib.Nat.{eq_of_mul-eq-mul_right}
use native.Mathlib.Omega.{arith}
use mathlib.Core.Path.{◌≡◌, refl}
use mathlib.Core.Bool.{true}
use lib.Dec.{lit<}
use lib.Ieee.{Float, binary32, le, of_bits}
use lib.Ieee.Positive.{den, den_pos}
use Rattle.lists.proofs.Tests.{to-T, and_parts}
use Rattle.float32.specs.Value.{IsValue}
use Rattle.float32.specs.Float32.{zero, between}
use Rattle.float32.proofs.Values.{rescale, le-value}
use Rattle.corner_list.specs.declared.Corner.{Corner}
use Rattle.corner_list.specs.CornerList.{largest_coordinate, is_inside}
use Rattle.corner_list.proofs.Inside.{inside-parts}
use Rattle.merge_alike.specs.Alike.{IsMultiple, OnMultiples}

pub record Sixtyfourths (x : Float) : Type 0 where
  pub count : ℕ
  pub few : count ≤ 262144
  pub value : IsValue x count 0 64

-- the number of 64ths is one
pub only-count : (x : Float) (k m : ℕ) → IsValue x k 0 64 → IsValue x m 0 64 → k ≡ m
only-count x k m v w = eq_of_mul-eq-mul_right (den x) (den_pos x) k m (omega (arith, v.equal, w.equal))

-- ---- a multiple up to that
in-range : (x : Float) → IsMultiple x → between zero largest_coordinate x ≡ true → Sixtyfourths x
in-range x m e =
    let p = m.plus in
    let n = m.minus in
    let ends = and_parts (le zero x) (le x largest_coordinate) e in
    let low : 0 + n ≤ p + 0 = (le-value zero x 0 0 p n 64 (lit< tt) (record { is_finite = tt; equal = refl }) m.value).0
    (to-T ends.0) in
    let high : p + 0 ≤ 262144 + n =
    (le-value x largest_coordinate p n 262144 0 64 (lit< tt) m.value (record { is_finite = tt; equal = refl })).0 (to-T ends.1) in
    record {
      count = p - n;
      few = omega arith;
      value = rescale x p n 64 (p - n) 0 64 (lit< tt) (omega arith) m.value;
    }

-- a corner at such multiples
pub record Placed (c : Corner) : Type 0 where
  pub column : Sixtyfourths c.x
  pub row : Sixtyfourths c.y

pub placed : (c : Corner) → OnMultiples c → is_inside c ≡ true → Placed c
placed c m e = let parts = inside-parts c e in
    record { column = in-range c.x m.column parts.0; row = in-range c.y m.row parts.1 }

-- ---- -0.0, -3/64 and 2^100 are multiples of 1/64
pub minus-zero : IsMultiple (of_bits binary32 0x8000_0000)
unfolding of_bits
minus-zero = record { plus = 0; minus = 0; value = record { is_finite = tt; equal = refl } }
