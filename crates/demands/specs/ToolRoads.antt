-- Wrong roads that lead to a wrong value (RULES 15.3), for the tools beside the finder.
use Rattle.std.specs.Prelude.{ℕ, suc, ◌+◌, ◌-◌, ◌*◌, ◌%◌, ◌^◌, min, Bool, false, cond, not, ◌||◌, List, [], ◌∷◌, ◌++◌}
use Rattle.std.specs.Prelude.{eqb, ltb, leb, length, get_or, set, drop, replicate, ℤ, pos, Float}
use Rattle.std.specs.Int.Signed.{lt_z}
use Rattle.std.specs.Float.{nan, binary32}
use Rattle.std.specs.Float.Ieee.{of_bits, to_bits}
use Rattle.lists.specs.Places.{Place, any}
use Rattle.lists.specs.Refusals.{result_or}
use Rattle.float32.specs.Float32.{nearest_whole}
use Rattle.float32.specs.Value.{dist, minus_part}
use Rattle.ring.specs.Ring.{ring5}
use Rattle.response.specs.Exact.{fifths_at}
use Rattle.response.specs.Patch.{whole, cells}
use Rattle.corner_list.specs.CornerList.{Slices, corner_at, corners_of, front_corners, without, without_corner}
use Rattle.detect.specs.Peaks.{CellTests, is_peak}
use Rattle.merge_naive.specs.Case.{one}
use Rattle.pgm.specs.Header.{Character, in_comment, trailing, is_space, field_of, maxval_field, width_of, height_of}
use Rattle.pgm.specs.Pgm.{pixels_in}
use Rattle.listing.specs.Text.{refused_text}
use Rattle.retouch.specs.Retouch.{is_at, sample_places, touched, redone}
use Rattle.response_limits.specs.Limits.{Range, least_dist, low_at}
use Rattle.sure_peak.specs.SurePeak.{stored_fifths, by_limits, is_sure}
use Rattle.corner_strike.specs.Editions.{edition, raised}
use Rattle.corner_strike.specs.Striking as striking
use Rattle.stream.specs.declared.Header.{Header}
use Rattle.stream.specs.Stream.{header, u32}
use Rattle.stream.specs.RoundTrip.{frame_bytes}
use Rattle.retention.specs.declared.Holding.{Holding}
use Rattle.retention.specs.declared.Holding.TheVariants.{NotYet, Held, Gone}
use Rattle.retention.specs.Retention.{day_of, state_of, letter_of}
use Rattle.retention.specs.Stream.{time_of, output_of}
use Rattle.demands.specs.Texts.{bytes_of}
use Rattle.demands.specs.Roads.{Road, road, told, place, corner, holding}

-- ---- request 1, PGM photographs

-- a comment that counts as whitespace (RULES 20.3)
abbrev spaced : Bool → ℕ → List ℕ → List Character
spaced inside from [] = []
spaced inside from (c ∷ cs) =
    let more = spaced (in_comment inside c) (suc from) cs in
    cond inside more (record { code = cond (eqb c 35) 32 c; place = from } ∷ more)

-- a comment that ends at LF alone (RULES 20.3)
abbrev to_newline : Bool → ℕ → List ℕ → List Character
to_newline inside from [] = []
to_newline inside from (c ∷ cs) =
    let more = to_newline (cond inside (not (eqb c 10)) (eqb c 35)) (suc from) cs in
    cond (inside || eqb c 35) more (record { code = c; place = from } ∷ more)

abbrev first_code : List Character → ℕ
first_code [] = 0
first_code (c ∷ cs) = c.code

abbrev commented : List ℕ
commented = bytes_of "P5 1#\n2 1 255\n"

abbrev ended : List ℕ
ended = bytes_of "P5 1#\r2 1 255\n"

abbrev two_ends : List ℕ
two_ends = bytes_of "P5 1 1 255\r\nA"

abbrev column : List ℕ
column = bytes_of "P5 1 2 255\nAB"

abbrev photographs : List Road
photographs =
    -- "comments": a comment is whitespace, though the digits around it are one number (RULES 20.3)
    road (width_of commented) 12 (field_of (spaced false 2 (drop 2 commented))).number 1
    -- and ends at LF alone, not at CR too
    ∷ road (width_of ended) 12 (field_of (to_newline false 2 (drop 2 ended))).number 1
    -- "the P5 form": all whitespace after the maxval is skipped, though an LF after the CR is a pixel (RULES 20.2)
    ∷ road (get_or (pixels_in two_ends) 0 0) 10 (first_code (trailing is_space (maxval_field two_ends).rest)) 65
    -- "width, height": the other way round
    ∷ road (width_of column) 1 (height_of column) 2
    ∷ []

-- ---- request 8, retouched pixels (RULES 27): an image of 10 by 11, in which the ring around (5, 5) does not fit; and
-- one of 11 by 11, whose map was 1
abbrev dark : List ℕ
dark = replicate 121 0

abbrev first_cell : List Float → ℕ
first_cell m = nearest_whole (get_or m 0 nan)

abbrev retouching : List Road
retouching =
    -- "only cells not within a ring radius of the edge": all whose samples contain the pixel
    road (told (touched 10 11 ring5 (place 5 5) (place 5 5))) 0
    (told (any (is_at ring5 (place 5 5) (place 5 5)) (sample_places ring5))) 1
    -- "any other map gets those cells and no more": a fresh map (RULES 27.3)
    ∷ road (first_cell (redone dark 11 11 ring5 (place 5 5) (replicate 121 one))) 1
    (first_cell (cells (whole dark 11 11 ring5))) 0
    ∷ []

-- ---- request 9, pixels known between limits (RULES 28)
abbrev ranging : ℕ → ℕ → Range
ranging low high = record { low = low; high = high }

-- 11 by 11 pixels that are 0, except the centre, which is 1
abbrev lit : List ℕ
lit = set dark 60 1

-- maps of 13 by 13 with one number in the centre and another in every other cell
abbrev about : ℕ → ℕ → List ℤ
about others centre = set (replicate 169 (pos others)) 84 (pos centre)

-- whether the centre is a sure peak, with window 1, at a threshold, with this least number of neighbours; and by
-- another reading
abbrev sure : List ℤ → List ℤ → ℕ → ℕ → ℕ
sure lows highs threshold least = told (is_sure lows highs 13 13 5 threshold 1 least 0 (place 6 6))

abbrev sure_by : ℕ → CellTests → ℕ
sure_by least v = told (is_peak v 13 13 1 least (place 6 6))

-- the right reading, and those with another test for the threshold, for larger cells and for neighbours
module _ (lows highs : List ℤ) (threshold : ℕ) where
  abbrev right : CellTests
  right = by_limits (stored_fifths lows 13) (stored_fifths highs 13) threshold

  abbrev above_by : (Place → Bool) → CellTests
  above_by above = record { above = above; larger = right.larger; positive = right.positive }

  abbrev larger_by : (Place → Place → Bool) → CellTests
  larger_by larger = record { above = right.above; larger = larger; positive = right.positive }

  abbrev positive_by : (Place → Bool) → CellTests
  positive_by positive = record { above = right.above; larger = right.larger; positive = positive }

abbrev most : ℕ
most = 2 ^ 31 - 1

abbrev between : List Road
between =
    -- "the least 0 where its inside can have either sign": the lesser of its ends (RULES 28.2)
    road (least_dist (ranging 0 2) (ranging 1 1)) 0 (min (dist 0 1) (dist 2 1)) 1
    -- "each absolute value at its least or greatest": as the low image has it (RULES 28.3); of -16 and 0
    ∷ road (minus_part (low_at dark lit 11 11 ring5 5 5)) 16 (minus_part (fifths_at dark 11 11 ring5 5 5)) 0
    -- "whose low exceeds five times that threshold": is at least that (RULES 28.6)
    ∷ road (sure (about 0 10) (about 0 10) 2 0) 0
    (sure_by 0 (above_by (about 0 10) (about 0 10) 2
    (λ p. not (lt_z (stored_fifths (about 0 10) 13 p) (pos (5 * 2)))))) 1
    -- with the product cut to 32 bits
    ∷ road (sure (about 0 most) (about 0 most) (2 ^ 30) 0) 0
    (sure_by 0 (above_by (about 0 most) (about 0 most) (2 ^ 30)
    (λ p. lt_z (pos (5 * 2 ^ 30 % 2 ^ 32)) (stored_fifths (about 0 most) 13 p)))) 1
    -- "is at least every window cell's high": is above it
    ∷ road (sure (about 10 10) (about 10 10) 1 0) 1
    (sure_by 0 (larger_by (about 10 10) (about 10 10) 1
    (λ q p. not (lt_z (stored_fifths (about 10 10) 13 q) (stored_fifths (about 10 10) 13 p))))) 0
    -- "enough neighbours of low above 0": of high
    ∷ road (sure (about 0 10) (about 5 10) 1 1) 0
    (sure_by 1 (positive_by (about 0 10) (about 5 10) 1 (λ q. lt_z (pos 0) (stored_fifths (about 5 10) 13 q)))) 1
    ∷ []

-- ---- request 10, a corner struck (RULES 29.3): the only corner of a list, at column 7; and a list of two, with 1 and
-- 2 neighbours
abbrev only : Slices
only = holding (corner 7 0 0 0 ∷ [])

abbrev both : Slices
both = holding (corner 0 0 0 1 ∷ corner 0 0 0 2 ∷ [])

abbrev first_x : Slices → ℕ
first_x b = nearest_whole (get_or b.xs 0 nan)

abbrev strikes : List Road
strikes =
    -- "the freed last place becoming zero": it stays as it was
    road (first_x (without_corner 0 1 only)) 0 (first_x (front_corners (without 0 (corners_of only 1)) only)) 7
    -- "later ones moving up": in the slices of floats alone
    ∷ road (get_or (without_corner 0 2 both).neighbours 0 0) 2 (get_or both.neighbours 0 0) 1
    -- "the very corner shown for that place and number": for that place, though a strike came between (RULES 29.5)
    ∷ road (corner_at (without_corner 0 2 both) 0).neighbours 2 (corner_at both 0).neighbours 1
    -- "raised by each strike and by nothing else": by a call that is refused (RULES 29.1)
    ∷ road (result_or (striking.refusal_of 0 (edition 0 0) 0 0) (raised (edition 0 0)) (edition 0 0)).change 0
    (raised (edition 0 0)).change 1
    ∷ []

-- ---- request 11, the frame stream written (RULES 30.1): a threshold of these bits
abbrev frame_of : ℕ → Header
frame_of threshold = header 0 0 5 threshold 0 0 0 0 0 0 0

abbrev writing : List Road
writing =
    -- "float bits included": the bits of the float that they are
    road (u32 (frame_bytes (frame_of 0x7f80_0001) []) 7) 0x7f80_0001
    (u32 (frame_bytes (frame_of (to_bits binary32 (of_bits binary32 0x7f80_0001))) []) 7) 0x7fc0_0000
    -- "the one stream for them": of one pixel, without zeros after it
    ∷ road (length (frame_bytes (frame_of 0) (1 ∷ []))) 56 (length (frame_bytes (frame_of 0) []) + 2) 25
    ∷ []

-- ---- request 13, what may be deleted (RULES 32.2): the letters N, H and G are 78, 72 and 71
abbrev held_if : Bool → Holding
held_if stays = cond stays Held Gone

abbrev deleted : List Road
deleted =
    -- "gone on d+90": held on it
    road (letter_of (state_of 2 0 (90 * 86400))) 71 (letter_of (held_if (leb (day_of (90 * 86400)) (day_of 0 + 90)))) 72
    -- "days d to d+89": 90 days of seconds, here from the last second of day 0 on
    ∷ road (letter_of (state_of 2 86399 (90 * 86400))) 71
    (letter_of (held_if (ltb (90 * 86400) (86399 + 90 * 86400)))) 72
    -- "up to but excluding t + 604,800": including it
    ∷ road (letter_of (state_of 3 0 604800)) 71 (letter_of (held_if (leb 604800 (0 + 604800)))) 72
    -- "Before the second of receipt .. a photograph's own day included": before the day
    ∷ road (letter_of (state_of 2 1 0)) 78 (letter_of (cond (ltb (day_of 0) (day_of 1)) NotYet Held)) 72
    -- "in little-endian": the highest byte first (RULES 32.4)
    ∷ road (time_of (1 ∷ replicate 7 0)) 1 (256 ^ 7) 72057594037927936
    -- "The stream may end after the time": it is cut short (RULES 32.4); how long the text is
    ∷ road (length (output_of (replicate 8 0))) 0 (length (refused_text 7)) 10
    ∷ []

-- ---- the table
unfoldable pub tool_roads : List Road
tool_roads = photographs ++ retouching ++ between ++ strikes ++ writing ++ deleted
