-- The contracts of the private functions.
use Rattle.std.specs.Prelude.{ℕ, ◌+◌, ◌-◌, ◌*◌, ◌/◌, ◌≤◌, ◌≡◌, not, cond, List, [], ◌∷◌, length, take, drop, eqb}
use Rattle.std.specs.Float.{binary32}
use Rattle.std.specs.Float.Ieee.{of_bits}
use Rattle.lists.specs.Tab.{tab}
use Rattle.lists.specs.Refusals.{lowest, number_of, unless}
use Rattle.merge_radius.specs.MergeRadius.{radius_outside}
use Rattle.stream.specs.declared.Header.{Header}
use Rattle.stream.specs.declared.judging.Stop.{Stop}
use Rattle.frame_params.specs.Ranges.{range_outside}
use Rattle.stream.specs.Stream.{largest_stream_side, u8, u16, known, header_of, accepted, refused}
use Rattle.stream.specs.Stream.{records_for, read_frame}
use Rattle.stream.specs.Wanted.{wanted_here, wanted}

-- the kind expected after one of kind `kind` (0 at the start) if `left` pixels have not come yet
unfoldable pub due : ℕ → ℕ → ℕ
due kind left = cond (eqb kind 0) 1 (cond (eqb kind 1) 2 (cond (eqb left 0) 4 3))

-- the fault of a kind if `due` is expected
unfoldable pub kind_fault : ℕ → ℕ → ℕ
kind_fault kind due = lowest ((not (known kind), 6) ∷ (not (eqb kind due), 11) ∷ [])

-- the faults of the parameters apart
unfoldable pub range_fault : ℕ → ℕ → ℕ → ℕ
range_fault ring window centroid = lowest ((range_outside ring window centroid, 3) ∷ [])

unfoldable pub radius_fault : ℕ → ℕ
radius_fault bits = lowest ((radius_outside (of_bits binary32 bits), 5) ∷ [])

-- by their places: the header, the number of pixels, and each pixel, with a byte for the kind before every 32
unfoldable pub header_at : List ℕ → Header
header_at s = header_of (take 4 (drop 1 s)) (take 16 (drop 6 s))

unfoldable pub pixel_count : List ℕ → ℕ
pixel_count s = u16 (take 4 (drop 1 s)) 0 * u16 (take 4 (drop 1 s)) 2

abbrev pub pixel_byte : List ℕ → ℕ → ℕ
pixel_byte s i = u8 s (23 + i + i / 32)

-- the pixels that have not come yet after a record of kind `kind`
unfoldable pub left_after : List ℕ → ℕ → ℕ → ℕ
unfolding pixel_count
left_after s kind left = cond (eqb kind 1) (pixel_count s) (cond (eqb kind 3) (left - 32) left)

-- the sides are at most the largest
pub record SidesInRange (s : List ℕ) : Type 0 where
  pub width : u16 (take 4 (drop 1 s)) 0 ≤ largest_stream_side
  pub height : u16 (take 4 (drop 1 s)) 2 ≤ largest_stream_side

-- the stream is complete up to its last pixel, and its sides are small
pub record Whole (s : List ℕ) : Type 0 where
  pub small : SidesInRange s
  pub long : 22 + 33 * records_for (pixel_count s) ≤ length s

-- the number of the earliest fault
pub record Judged (s : List ℕ) (fault : ℕ) : Type 0 where
  pub reading : read_frame s ≡ unless refused fault (accepted (header_at s) (tab (pixel_count s) (pixel_byte s)))
  pub whole : fault ≡ 0 → Whole s

-- where checking ends: the fault, and the bytes that are needed there
pub record Stopped (s : List ℕ) (r : Stop) : Type 0 where
  pub judged : Judged s (number_of r.fault)
  pub wants : wanted s ≡ cond (eqb (number_of r.fault) 0) 0 (wanted_here r.due r.left (drop r.at s))
