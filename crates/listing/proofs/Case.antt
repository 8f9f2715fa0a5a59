-- The whole case (RULES 14), "corners 1" and "1280 1280 40a00000 40a00000 44fe0000 0", computed from the definition. Assumes nothing.
use Prim.Native.Nat.{ℕ, ◌-◌, ◌^◌}
use mathlib.Core.Bool.{true, false}
use mathlib.Core.Path.{◌≡◌, refl}
use mathlib.Core.List.{List, [], ◌∷◌, ◌++◌}
use lib.Ieee.{nan, inf, binary32, of_bits, to_bits, to_unsigned, mul, le}
use Rattle.float32.specs.Float32.{round_half_away}
use Rattle.corner_list.specs.declared.Corner.{Corner}
use Rattle.listing.specs.Text.{decimal, hexadecimal, units_of, corners_text, refused_text}

-- 5, 5 and 2032
abbrev centre : Corner
centre =
    record { x = of_bits binary32 0x40a0_0000; y = of_bits binary32 0x40a0_0000; strength = of_bits binary32 0x44fe_0000; neighbours = 0 }

abbrev text : List ℕ
text =
    (99 ∷ 111 ∷ 114 ∷ 110 ∷ 101 ∷ 114 ∷ 115 ∷ 32 ∷ 49 ∷ 10 ∷ [])
    ++ (49 ∷ 50 ∷ 56 ∷ 48 ∷ 32 ∷ [])
    ++ (49 ∷ 50 ∷ 56 ∷ 48 ∷ 32 ∷ [])
    ++ (52 ∷ 48 ∷ 97 ∷ 48 ∷ 48 ∷ 48 ∷ 48 ∷ 48 ∷ 32 ∷ [])
    ++ (52 ∷ 48 ∷ 97 ∷ 48 ∷ 48 ∷ 48 ∷ 48 ∷ 48 ∷ 32 ∷ [])
    ++ (52 ∷ 52 ∷ 102 ∷ 101 ∷ 48 ∷ 48 ∷ 48 ∷ 48 ∷ 32 ∷ [])
    ++ (48 ∷ 10 ∷ [])

pub whole-case : corners_text (centre ∷ []) ≡ text
unfolding corners_text units_of round_half_away decimal hexadecimal to_bits to_unsigned of_bits mul le
whole-case = refl

-- numbers: 0 has a digit too, and letters are small
pub numbers : (decimal 0 ≡ 48 ∷ []) × (decimal 10 ≡ 49 ∷ 48 ∷ []) × (hexadecimal 171 ≡ 48 ∷ 48 ∷ 48 ∷ 48 ∷ 48 ∷ 48 ∷ 97 ∷ 98 ∷ [])
unfolding decimal hexadecimal
numbers = (refl, refl, refl)

-- a NaN, infinities and negatives
pub edges :
    (units_of nan ≡ 0)
    × (units_of (inf false) ≡ 2 ^ 64 - 1)
    × (units_of (inf true) ≡ 0)
    × (units_of (of_bits binary32 0xbf80_0000) ≡ 0)
    × (to_bits binary32 nan ≡ 0x7fc0_0000)
unfolding units_of round_half_away to_bits to_unsigned of_bits mul le
edges = (refl, refl, refl, refl, refl)

-- half a 256th, and the float below it, which 256 x + 0.5 would round up; one and a half; two and a half, which half to even would round
-- down; the float below 6; 4,096; the float above 65,536, where 256 x is whole
pub nearest :
    (units_of (of_bits binary32 0x3b00_0000) ≡ 1)
    × (units_of (of_bits binary32 0x3aff_ffff) ≡ 0)
    × (units_of (of_bits binary32 0x3bc0_0000) ≡ 2)
    × (units_of (of_bits binary32 0x3c20_0000) ≡ 3)
    × (units_of (of_bits binary32 0x40bf_ffff) ≡ 1536)
    × (units_of (of_bits binary32 0x4580_0000) ≡ 1048576)
    × (units_of (of_bits binary32 0x4780_0001) ≡ 16777218)
unfolding units_of round_half_away to_unsigned of_bits mul le
nearest = (refl, refl, refl, refl, refl, refl, refl)

-- "refused 11"
pub refusal : refused_text 11 ≡ 114 ∷ 101 ∷ 102 ∷ 117 ∷ 115 ∷ 101 ∷ 100 ∷ 32 ∷ 49 ∷ 49 ∷ 10 ∷ []
unfolding refused_text decimal
refusal = refl
