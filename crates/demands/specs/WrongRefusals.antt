-- Wrong roads that lead to a wrong refusal (RULES 15.3): by another condition, or in another order. 0 means no refusal.
use Rattle.std.specs.Prelude.{ℕ, ◌+◌, ◌*◌, ◌%◌, ◌^◌, Bool, true, false, not, ◌&&◌, List, [], ◌∷◌, ◌++◌, eqb, ltb, leb}
use Rattle.std.specs.Prelude.{length, take, drop, Float}
use Rattle.std.specs.Float.{nan}
use Rattle.lists.specs.Places.{any}
use Rattle.lists.specs.Refusals.{lowest, is_large, number_of}
use Rattle.float32.specs.Float32.{zero, float_of}
use Rattle.ring.specs.Ring.{is_ring}
use Rattle.corner_list.specs.CornerList.{Slices, corners_of}
use Rattle.center_of_mass.specs.CenterOfMass as center
use Rattle.merge_refusal.specs.Refusals as merge
use Rattle.merge.specs.Merge.{result_of}
use Rattle.merge.specs.Apart.{refusal_apart}
use Rattle.stream.specs.declared.Header.{Header}
use Rattle.stream.specs.Stream.{header, body_length, read_frame}
use Rattle.stream.specs.Answer as stream
use Rattle.pgm.specs.Header.{has_header, width_of, height_of, maxval_of, raster_at}
use Rattle.pgm.specs.Pgm as pgm
use Rattle.retouch.specs.Promise as retouch
use Rattle.response_limits.specs.Promise as limits
use Rattle.corner_strike.specs.Editions.{edition, is_other, is_beyond}
use Rattle.corner_strike.specs.Striking as striking
use Rattle.frame_writer.specs.FrameWriter as writer
use Rattle.retention.specs.Retention.{known}
use Rattle.retention.specs.Retention as retention
use Rattle.demands.specs.Texts.{bytes_of}
use Rattle.demands.specs.Roads.{Road, road, Wrong, place, corner, outside, holding}

-- a condition that comes before a table's
abbrev before : Bool × ℕ → List (Bool × ℕ) → ℕ
before condition conditions = lowest (condition ∷ conditions)

-- ---- the rules before the requests

-- radius 3, and a corner outside the image in a buffer of one place
abbrev three : Float
three = float_of 3

abbrev one_outside : Slices
one_outside = holding (outside ∷ [])

abbrev base : List Road
base =
    -- "With an off radius .. the merge checks only 10": 4 too (RULES 2.4)
    road (merge.refusal_of nan 1 1 one_outside) 0
    (before (any merge.corner_outside (corners_of one_outside 1), 4) (merge.conditions nan [] (ltb 1 1))) 4
    -- "Lowest number first", even if a stated count exceeds the places: 10 before 4 (RULES 2.3)
    ∷ road (merge.refusal_of three 1 2 one_outside) 4
    (before (ltb 1 2, 10) (merge.conditions three (corners_of one_outside 1) true)) 10
    -- "1 and 2 are then not judged", without a map: 1 too (RULES 2.4)
    ∷ road (center.refusal_of 0 zero zero false 0 4097 0) 0 (center.refusal_of 0 zero zero true 0 4097 0) 1
    -- "11 before its body": a record out of order, whose body is cut short (RULES 11.4)
    ∷ road (number_of (stream.answer_of (read_frame (2 ∷ [])))) 11
    (lowest ((ltb 0 (body_length 2), 7) ∷ (not (eqb 2 1), 11) ∷ [])) 7
    ∷ []

-- ---- request 1, PGM photographs (RULES 20.6)
abbrev sideless : List ℕ
sideless = bytes_of "P5 0 0 255\n"

abbrev with_more : List ℕ
with_more = bytes_of "P5 0 0 255\nA"

abbrev maxval0 : List ℕ
maxval0 = bytes_of "P5 0 0 0\n"

abbrev unfinished : List ℕ
unfinished = bytes_of "P5 4097 0"

abbrev photographs : List Road
photographs =
    -- "A side of 0 is read like any other": refused
    road (pgm.refusal_of sideless) 0 (before (eqb (width_of sideless) 0, 12) (pgm.conditions sideless)) 12
    -- "Bytes after the pixels are not read": refused
    ∷ road (pgm.refusal_of with_more) 0
    (before (ltb (width_of with_more * height_of with_more) (length (drop (raster_at with_more) with_more)), 12)
    (pgm.conditions with_more)) 12
    -- "13 maxval any number but 255, 0 and above 65,535 included": 0 means that the header has another form
    ∷ road (pgm.refusal_of maxval0) 13 (before (eqb (maxval_of maxval0) 0, 12) (pgm.conditions maxval0)) 12
    -- "1 is given first where both sides can be read .., whatever follows the height's last digit": for whole headers
    -- only
    ∷ road (pgm.refusal_of unfinished) 1
    (before (has_header unfinished && is_large (width_of unfinished) (height_of unfinished), 1)
    (drop 1 (pgm.conditions unfinished))) 12
    ∷ []

-- ---- request 6, merging apart (RULES 25.2), with radius 3: two corners that join, and one of them outside, into a
-- buffer of one place
abbrev joining : Slices
joining = holding (corner 1 1 3 0 ∷ corner 2 1 4 0 ∷ [])

abbrev with_outside : Slices
with_outside = holding (corner 1 1 3 0 ∷ outside ∷ [])

abbrev apart : List Road
apart =
    -- "10 also where the original list doesn't fit": if the merged list does not fit
    road (refusal_apart three 1 2 joining) 10
    (lowest (merge.conditions three (corners_of joining 2) (ltb 1 (length (result_of three (corners_of joining 2)))))) 0
    -- that of the merge in place, however short the separate buffer
    ∷ road (refusal_apart three 1 2 joining) 10 (merge.refusal_of three 2 2 joining) 0
    -- "in its order": 4, checked for only as many corners as the separate buffer has places
    ∷ road (refusal_apart three 1 2 with_outside) 4
    (lowest (merge.conditions three (corners_of with_outside 1) true)) 10
    ∷ []

-- ---- request 8, retouched pixels (RULES 2.3): an image without a pixel, and a ring of 0
abbrev retouching : List Road
retouching =
    -- "14 place outside the image, after 3": before it
    road (retouch.refusal_of 0 0 0 0 0 (place 0 0)) 3
    (before (retouch.place_outside 0 0 (place 0 0), 14) (retouch.conditions 0 0 0 0 0 (place 0 0))) 14
    ∷ []

-- ---- request 9, pixels known between limits (RULES 28.5): one pixel, its low value above its high one, and a ring of
-- 0
abbrev between : List Road
between =
    -- "15 .., after 2": in the order of the numbers
    road (limits.refusal_of (1 ∷ []) (0 ∷ []) 1 1 0 1 1) 15
    (before (not (is_ring 0), 3) (limits.conditions (1 ∷ []) (0 ∷ []) 1 1 0 1 1)) 3
    -- "either too short: 8": the first alone
    ∷ road (limits.refusal_of (0 ∷ []) (0 ∷ []) 1 1 5 1 0) 8
    (lowest (take 6 (limits.conditions (0 ∷ []) (0 ∷ []) 1 1 5 1 0))) 0
    ∷ []

-- ---- request 10, a corner struck (RULES 29.4): a list without a corner, and one of one corner
abbrev strikes : List Road
strikes =
    -- "16 .., 17 .., 18 ..; checked in that order": 17 before 16
    road (striking.refusal_of 0 (edition 0 0) 0 1) 16
    (before (is_beyond 0 0, 17) (striking.conditions 0 (edition 0 0) 0 1)) 17
    -- "after 10": 16 before it; for a count of one in a buffer with no place
    ∷ road (striking.refusal_of 0 (edition 1 0) 0 1) 10
    (before (is_other (edition 1 0) 1, 16) (striking.conditions 0 (edition 1 0) 0 1)) 16
    -- "16 change number differs from the list's": is below it
    ∷ road (striking.refusal_of 1 (edition 1 0) 0 1) 16
    (before (ltb 1 0, 16) (drop 2 (striking.conditions 1 (edition 1 0) 0 1))) 0
    -- "Places count from 0": from 1
    ∷ road (striking.refusal_of 1 (edition 1 0) 1 0) 17 (lowest ((ltb 1 1, 17) ∷ [])) 0
    -- "18 change number at its largest u32": left out
    ∷ road (striking.refusal_of 1 (edition 1 4294967295) 0 4294967295) 18
    (lowest (take 3 (striking.conditions 1 (edition 1 4294967295) 0 4294967295))) 0
    ∷ []

-- ---- request 11, the frame stream written (RULES 30.2): no pixels, with this least number of neighbours, into a
-- buffer with a given number of places
abbrev frame_of : ℕ → Header
frame_of least = header 0 0 5 0 0 least 0 0 0 0 0

abbrev writing : List Road
writing =
    -- "3 (also a value too wide for its field)": its low byte written
    road (writer.refusal_of (frame_of 256) [] 23) 3 (writer.refusal_of (frame_of (256 % 256)) [] 23) 0
    -- "1 (sides above 96)": above 4,096
    ∷ road (writer.refusal_of (header 97 0 5 0 0 0 0 0 0 0 0) [] 23) 1
    (before (is_large 97 0, 1) (drop 1 (writer.conditions (header 97 0 5 0 0 0 0 0 0 0 0) [] 23))) 0
    -- "19 .. too short": left out
    ∷ road (writer.refusal_of (frame_of 0) [] 22) 19 (lowest (take 4 (writer.conditions (frame_of 0) [] 22))) 0
    ∷ []

-- ---- request 13, what may be deleted (RULES 32.3)
abbrev deleted : List Road
deleted =
    -- "20 start or time above 2^40": from 2^40 on
    road (retention.refusal_of 1 (2 ^ 40) 0) 0 (lowest ((not (known 1), 6) ∷ (leb (2 ^ 40) (2 ^ 40), 20) ∷ [])) 20
    -- "in one record after 6 and 7": 20 before 6
    ∷ road (retention.refusal_of 0 (2 ^ 40 + 1) 0) 6
    (before (ltb (2 ^ 40) (2 ^ 40 + 1), 20) ((not (known 0), 6) ∷ [])) 20
    ∷ []

-- ---- the table
unfoldable pub wrong_refusals : List Road
wrong_refusals = base ++ photographs ++ apart ++ retouching ++ between ++ strikes ++ writing ++ deleted

abbrev pub WrongRefusals : Type 0
WrongRefusals = Wrong wrong_refusals
