-- Small streams, what is read of them and how many bytes they want, computed from the definitions. Assumes nothing.
use Prim.Native.Nat.{ℕ}
use mathlib.Core.Path.{◌≡◌, refl}
use mathlib.Core.List.{List, [], ◌∷◌, ◌++◌, map}
use lib.ListN.{replicate}
use lib.Ieee.{of_bits, lt, le}
use Rattle.merge_radius.specs.MergeRadius.{is_off, is_sized}
use Rattle.stream.specs.Stream.{body_length, accepted, refused, read_frame}
use Rattle.stream.specs.Wanted.{wanted}

-- sides; parameters with ring, window and merge radius; pixels of one record
abbrev sides : ℕ → ℕ → List ℕ
sides w h = 1 ∷ w ∷ 0 ∷ h ∷ 0 ∷ []

abbrev parameters : ℕ → ℕ → List ℕ → List ℕ
parameters ring window merge = (2 ∷ ring ∷ 0 ∷ 0 ∷ 128 ∷ 63 ∷ window ∷ 2 ∷ 3 ∷ []) ++ merge ++ (4 ∷ 5 ∷ 6 ∷ 7 ∷ [])

abbrev three : List ℕ
three = 0 ∷ 0 ∷ 64 ∷ 64 ∷ []

abbrev good : List ℕ
good = parameters 5 1 three

abbrev pixel : ℕ → ℕ → List ℕ
pixel v padding = 3 ∷ v ∷ replicate 31 padding

abbrev streams : List (List ℕ)
streams =
    []
    ∷ (5 ∷ [])
    ∷ (2 ∷ [])
    ∷ (1 ∷ 1 ∷ 0 ∷ 1 ∷ [])
    ∷ sides 97 1
    ∷ (sides 1 1 ++ parameters 6 1 (0 ∷ 0 ∷ 0 ∷ 70 ∷ []))
    ∷ (sides 1 1 ++ parameters 5 1 (0 ∷ 0 ∷ 0 ∷ 70 ∷ []))
    ∷ (sides 1 1 ++ good ++ (4 ∷ []))
    ∷ (sides 1 1 ++ good ++ pixel 9 1)
    ∷ (sides 1 1 ++ good ++ pixel 9 0)
    ∷ (sides 0 1 ++ good ++ pixel 9 0)
    ∷ []

abbrev numbers : List ℕ
numbers = 7 ∷ 6 ∷ 11 ∷ 7 ∷ 1 ∷ 3 ∷ 5 ∷ 11 ∷ 7 ∷ 7 ∷ 11 ∷ []

pub faults : map read_frame streams ≡ map refused numbers
unfolding read_frame body_length of_bits lt le is_off is_sized
faults = refl

-- the bytes that they want: a kind, the rest of a body, or none, where a fault decides
pub wants : map wanted streams ≡ 1 ∷ 0 ∷ 0 ∷ 1 ∷ 0 ∷ 0 ∷ 0 ∷ 0 ∷ 0 ∷ 1 ∷ 0 ∷ []
unfolding wanted body_length of_bits lt le is_off is_sized
wants = refl

-- of the pixels' record: the pixel and a byte of padding, then padding byte by byte up to one that is not 0; behind the end none
abbrev cut : List ℕ → List ℕ
cut came = sides 1 1 ++ good ++ (3 ∷ came)

pub padding-wants : map wanted (map cut
    ([] ∷ (9 ∷ []) ∷ (9 ∷ 0 ∷ []) ∷ (9 ∷ 0 ∷ 1 ∷ []) ∷ (9 ∷ replicate 31 0 ++ (4 ∷ 8 ∷ [])) ∷ [])) ≡ 2 ∷ 1 ∷ 1 ∷ 0 ∷ 0 ∷ []
unfolding wanted body_length of_bits lt le is_off is_sized
padding-wants = refl

-- a stream of one pixel, and one byte behind it that is not read
pub one-pixel : read_frame (sides 1 1 ++ good ++ pixel 9 0 ++ (4 ∷ 8 ∷ [])) ≡ accepted record {
  width = 1;
  height = 1;
  ring = 5;
  threshold_bits = 0x3f80_0000;
  window = 1;
  least_neighbours = 2;
  centroid_radius = 3;
  merge_bits = 0x4040_0000;
  levels = 4;
  minimum_side = 0x0605;
  search_radius = 7;
} (9 ∷ [])
unfolding read_frame body_length of_bits lt le is_off is_sized
one-pixel = refl
