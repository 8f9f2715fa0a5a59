-- Small streams and refusals, computed from the definitions. Assumes nothing.
use Prim.Native.Nat.{ℕ}
use mathlib.Core.Path.{◌≡◌, refl}
use mathlib.Core.List.{[], ◌∷◌, ◌++◌}
use lib.ListN.{length, replicate}
use lib.Ieee.{of_bits, lt, le}
use Rattle.merge_radius.specs.MergeRadius.{is_off, is_sized}
use Rattle.stream.specs.declared.Header.{Header}
use Rattle.stream.specs.RoundTrip.{frame_bytes}
use Rattle.frame_writer.specs.FrameWriter.{refusal_of}

-- two NaN patterns, and the largest value of every field that no range bounds
abbrev frame : ℕ → ℕ → ℕ → ℕ → Header
frame side ring least merge = record {
  width = side;
  height = side;
  ring = ring;
  threshold_bits = 0x7fc0_0001;
  window = 0;
  least_neighbours = least;
  centroid_radius = 0;
  merge_bits = merge;
  levels = 255;
  minimum_side = 65535;
  search_radius = 255;
}

abbrev nan : ℕ
nan = 0xffc1_2345

pub one-pixel : frame_bytes (frame 1 5 0 nan) (9 ∷ []) ≡
    (1 ∷ 1 ∷ 0 ∷ 1 ∷ 0 ∷ [])
    ++ (2 ∷ 5 ∷ 0x01 ∷ 0x00 ∷ 0xc0 ∷ 0x7f ∷ 0 ∷ 0 ∷ 0 ∷ 0x45 ∷ 0x23 ∷ 0xc1 ∷ 0xff ∷ 255 ∷ 255 ∷ 255 ∷ 255 ∷ [])
    ++ (3 ∷ 9 ∷ replicate 31 0)
    ++ (4 ∷ [])
unfolding frame_bytes
one-pixel = refl

pub no-pixel : length (frame_bytes (frame 0 10 255 nan) []) ≡ 23
unfolding frame_bytes
no-pixel = refl

-- the buffer of 56 bytes, and one of 55; a value too wide; a merge radius of 5000, alone and with a wrong ring
abbrev number : ℕ → ℕ → ℕ → ℕ → ℕ
number ring least merge places = refusal_of (frame 1 ring least merge) (9 ∷ []) places

abbrev wide-radius : ℕ
wide-radius = 0x459c_4000

pub numbers :
    number 5 0 nan 56 ∷ number 5 0 nan 55 ∷ number 5 256 nan 56 ∷ number 5 0 wide-radius 56 ∷ number 6 0 wide-radius 55 ∷ []
    ≡ 0 ∷ 19 ∷ 3 ∷ 5 ∷ 3 ∷ []
unfolding refusal_of frame_bytes of_bits lt le is_off is_sized
numbers = refl
