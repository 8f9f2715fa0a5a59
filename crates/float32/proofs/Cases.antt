-- The definitions at the places where other rules differ, by computation. Assumes nothing.
use Rattle.std.proofs.Common.{◌≡◌, false, refl}
use lib.Ieee.{binary32, nan, inf, of_bits, to_unsigned, le, lt}
use Rattle.float32.specs.declared.Rounded.TheVariants.{Natural, Negative, Beyond}
use Rattle.float32.specs.Float32.{zero, abs, lift, round_half_away}

-- 0.49999997 to 0; 0.5 to 1; 2.5 to 3; -0.5 to -1; -0.25 to 0; 8388607.5 to 8388608; infinity is beyond
rounded :
    (round_half_away (of_bits binary32 0x3eff_ffff) ≡ Natural 0)
    × (round_half_away (of_bits binary32 0x3f00_0000) ≡ Natural 1)
    × (round_half_away (of_bits binary32 0x4020_0000) ≡ Natural 3)
    × (round_half_away (of_bits binary32 0xbf00_0000) ≡ Negative 1)
    × (round_half_away (of_bits binary32 0xbe80_0000) ≡ Natural 0)
    × (round_half_away (of_bits binary32 0x4aff_ffff) ≡ Natural 8388608)
    × (round_half_away (inf false) ≡ Beyond)
unfolding round_half_away of_bits le
rounded = (refl, refl, refl, refl, refl, refl, refl)

-- -0.0 to 0.0, by `abs` and by `lift`; NaN and -1.0 to 0.0 by `lift`
zeros :
    (abs (of_bits binary32 0x8000_0000) ≡ zero)
    × (lift (of_bits binary32 0x8000_0000) ≡ zero)
    × (lift nan ≡ zero)
    × (lift (of_bits binary32 0xbf80_0000) ≡ zero)
unfolding abs lift of_bits lt
zeros = (refl, refl, refl, refl)

-- 2.75 to 2; -0.5, -3.0 and NaN to 0; infinity to the largest
cut :
    (to_unsigned 64 (of_bits binary32 0x4030_0000) ≡ 2)
    × (to_unsigned 64 (of_bits binary32 0xbf00_0000) ≡ 0)
    × (to_unsigned 64 (of_bits binary32 0xc040_0000) ≡ 0)
    × (to_unsigned 64 nan ≡ 0)
    × (to_unsigned 64 (inf false) ≡ 18446744073709551615)
unfolding to_unsigned of_bits
cut = (refl, refl, refl, refl, refl)
