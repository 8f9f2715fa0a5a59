-- The frame stream as a list of bytes: its records, their faults, and what a stream holds (RULES 11).
use Rattle.std.specs.Prelude.{ℕ, zero, suc, ◌+◌, ◌-◌, ◌*◌, ◌/◌, Bool, true, cond, not, ◌&&◌, ◌||◌, List, [], ◌∷◌, ◌++◌}
use Rattle.std.specs.Prelude.{length, get_or, take, drop, eqb, ltb, leb}
use Rattle.std.specs.Float.{binary32}
use Rattle.std.specs.Float.Ieee.{of_bits}
use Rattle.lists.specs.Places.{any}
use Rattle.lists.specs.Refusals.{lowest, unless}
use Rattle.frame_params.specs.Ranges.{range_outside}
use Rattle.merge_radius.specs.MergeRadius.{radius_outside}
use Rattle.stream.specs.declared.Header.{Header}

-- ---- numbers at a place of a list of bytes, little-endian
abbrev pub u8 : List ℕ → ℕ → ℕ
u8 s at = get_or s at 0

abbrev pub u16 : List ℕ → ℕ → ℕ
u16 s at = u8 s at + 256 * u8 s (at + 1)

abbrev pub u32 : List ℕ → ℕ → ℕ
u32 s at = u16 s at + 65536 * u16 s (at + 2)

-- ---- records: one byte for the kind, then a body of fixed length (RULES 11.1)

-- kind 1: sides; 2: parameters; 3: 32 pixels; 4: end, empty
abbrev pub known : ℕ → Bool
known kind = leb 1 kind && leb kind 4

unfoldable pub body_length : ℕ → ℕ
body_length kind = cond (eqb kind 1) 4 (cond (eqb kind 2) 16 (cond (eqb kind 3) 32 0))

-- the body of a record at the start of s, and the bytes after the record
abbrev pub body_of : ℕ → List ℕ → List ℕ
body_of kind s = take (body_length kind) (drop 1 s)

abbrev pub behind : ℕ → List ℕ → List ℕ
behind kind s = drop (1 + body_length kind) s

-- sides and parameters in the order of the stream (RULES 11.1); the floats as their 32 bits (RULES 11.3)
abbrev pub header : ℕ → ℕ → ℕ → ℕ → ℕ → ℕ → ℕ → ℕ → ℕ → ℕ → ℕ → Header
header width height ring threshold window least centroid merge levels minimum search =
    record {
      width = width;
      height = height;
      ring = ring;
      threshold_bits = threshold;
      window = window;
      least_neighbours = least;
      centroid_radius = centroid;
      merge_bits = merge;
      levels = levels;
      minimum_side = minimum;
      search_radius = search;
    }

-- kind 1: width u16, height u16; kind 2: ring u8, threshold f32, window u8, least u8, centroid u8, merge radius f32,
-- levels u8, minimum u16, search u8 (RULES 11.1)
abbrev pub header_of : List ℕ → List ℕ → Header
header_of sides p =
    header (u16 sides 0) (u16 sides 2) (u8 p 0) (u32 p 1) (u8 p 5) (u8 p 6) (u8 p 7) (u32 p 8) (u8 p 12)
    (u16 p 13) (u8 p 15)

-- ---- faults by their numbers, 0 for none (RULES 11.4)

-- 1: the largest side of a frame in a stream (RULES 2.2)
abbrev pub largest_stream_side : ℕ
largest_stream_side = 96

-- the pixels of the largest, and the bytes of its stream: sides, parameters, and records of 32 pixels (RULES 11.2)
abbrev pub most_pixels : ℕ
most_pixels = largest_stream_side * largest_stream_side

abbrev pub longest_stream : ℕ
longest_stream = 5 + 17 + most_pixels / 32 * 33 + 1

-- a side above the largest
abbrev pub sides_outside : ℕ → ℕ → Bool
sides_outside width height = ltb largest_stream_side width || ltb largest_stream_side height

-- 1
unfoldable pub sides_fault : ℕ → ℕ → ℕ
sides_fault width height = lowest ((sides_outside width height, 1) ∷ [])

-- 3, then 5
unfoldable pub parameters_fault : ℕ → ℕ → ℕ → ℕ → ℕ
parameters_fault ring window centroid merge =
    lowest ((range_outside ring window centroid, 3) ∷ (radius_outside (of_bits binary32 merge), 5) ∷ [])

-- 7: padding that is not 0, if `left` pixels have not come yet
unfoldable pub padding_fault : ℕ → List ℕ → ℕ
padding_fault left body = lowest ((any (λ v. not (eqb v 0)) (drop left body), 7) ∷ [])

-- the body's own faults, by its kind
unfoldable pub body_fault : ℕ → ℕ → List ℕ → ℕ
unfolding sides_fault parameters_fault padding_fault
body_fault kind left body =
    cond (eqb kind 1) (sides_fault (u16 body 0) (u16 body 2))
    (cond (eqb kind 2) (parameters_fault (u8 body 0) (u8 body 5) (u8 body 7) (u32 body 8))
    (cond (eqb kind 3) (padding_fault left body) 0))

-- a record where kind `due` is expected, checked in this order: no byte is left, 7; an unknown kind, 6; a kind that is
-- not expected, 11; a body cut short, 7; the body's own fault
unfoldable pub record_fault : ℕ → ℕ → List ℕ → ℕ
unfolding body_length body_fault
record_fault due left [] = 7
record_fault due left (kind ∷ rest) =
    lowest
    ((not (known kind), 6)
    ∷ (not (eqb kind due), 11)
    ∷ (ltb (length rest) (body_length due), 7)
    ∷ (true, body_fault due left (take (body_length due) rest))
    ∷ [])

-- ---- reading (RULES 11.2)

-- sides and parameters with the pixels in row order, or the number of the earliest fault
pub data Reading : Type 0 where
  accepted : Header → List ℕ → Reading
  refused : ℕ → Reading

-- the record of kind `due` at the start of s, and then `next` of its body and of the bytes after it
unfoldable pub read_record : ℕ → ℕ → List ℕ → (List ℕ → List ℕ → Reading) → Reading
unfolding record_fault
read_record due left s next = unless refused (record_fault due left s) (next (body_of due s) (behind due s))

-- as many records of kind 3 as the pixels need, then one of kind 4
abbrev pub records_for : ℕ → ℕ
records_for n = (n + 31) / 32

unfoldable pub read_pixels : ℕ → Header → ℕ → List ℕ → List ℕ → Reading
unfolding read_record
read_pixels zero header left pixels s = read_record 4 left s (λ body rest. accepted header pixels)
read_pixels (suc n) header left pixels s =
    read_record 3 left s (λ body rest. read_pixels n header (left - 32) (pixels ++ take left body) rest)

-- what follows the sides
unfoldable pub read_parameters : List ℕ → List ℕ → Reading
unfolding read_pixels
read_parameters sides s =
    read_record 2 0 s (λ parameters rest.
    let header = header_of sides parameters in
    let n = header.width * header.height in
    read_pixels (records_for n) header n [] rest)

-- kind 1 comes first; bytes after kind 4 are not read
unfoldable pub read_frame : List ℕ → Reading
unfolding read_parameters
read_frame s = read_record 1 0 s read_parameters
