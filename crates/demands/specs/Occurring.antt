-- Demand 1 (RULES 2.4): each number occurs. `Total` says that a function gives no numbers but those of its list. Here
-- is, for each function of `Total` and each number of its list, a call that is refused with it. What refuses a call is
-- written as in the `number` field of the function's promise, so that field gives this number for any call with these
-- arguments.
use Rattle.std.specs.Prelude.{ℕ, ◌+◌, ◌^◌, min, ◌≡◌, Bool, true, false, List, [], ◌∷◌, ◌++◌, map, length, replicate, ℤ}
use Rattle.std.specs.Prelude.{pos, Float}
use Rattle.std.specs.Float.{nan, fin}
use Rattle.lists.specs.Places.{Place}
use Rattle.lists.specs.Refusals.{lowest, number_of}
use Rattle.float32.specs.Float32.{zero}
use Rattle.response.specs.Patch as response
use Rattle.pyramid_levels.specs.Refusals.{ask, build_refusal_of, level_refusal_of}
use Rattle.corner_list.specs.declared.Corner.{Corner}
use Rattle.corner_list.specs.CornerList.{Slices, slices, places_of}
use Rattle.detect.specs.Detect as detect
use Rattle.detect.specs.declared.Search.{Search}
use Rattle.center_of_mass.specs.CenterOfMass as center
use Rattle.multiscale.specs.Multiscale as multiscale
use Rattle.merge_refusal.specs.Refusals as merge
use Rattle.merge.specs.Apart.{refusal_apart}
use Rattle.merge_slice.specs.MergeSlice.{refusal_for}
use Rattle.corner_strike.specs.Editions.{Edition, edition}
use Rattle.corner_strike.specs.Showing as showing
use Rattle.corner_strike.specs.Striking as striking
use Rattle.frame_params.specs.declared.FrameParams.{FrameParams}
use Rattle.frame_params.specs.Params.{params}
use Rattle.patch_corners.specs.OneMap.{Choice, choice_of}
use Rattle.patch_corners.specs.MapCorners.{centres_in, centres_in_rows}
use Rattle.frame.specs.Frame.{Buffers, buffers}
use Rattle.frame.specs.Frame as frame
use Rattle.pgm.specs.Pgm as pgm
use Rattle.pgm_frame.specs.PgmFrame as photograph
use Rattle.stream.specs.declared.Header.{Header}
use Rattle.stream.specs.Stream.{header, read_frame}
use Rattle.stream.specs.Answer as stream
use Rattle.frame_writer.specs.FrameWriter as writer
use Rattle.listing.specs.Answer as listing
use Rattle.retouch.specs.Promise as retouch
use Rattle.response_limits.specs.Promise as limits
use Rattle.sure_peak.specs.Promise as sure
use Rattle.retention.specs.Retention as retention
use Rattle.demands.specs.ResponseCall.{view_of}
use Rattle.demands.specs.Texts.{bytes_of}
use Rattle.demands.specs.Cases.{whole_case}

-- what refuses some calls of a function, and the numbers that `Total` states for it
pub record Row : Type 0 where
  pub given : List ℕ
  pub said : List ℕ

abbrev row : List ℕ → List ℕ → Row
row g s = record { given = g; said = s }

-- ---- arguments

-- 1; 8,192, a merge radius that is too large, and its bits (RULES 2.2)
abbrev one : Float
one = fin false 1 (pos 0)

abbrev too_far : Float
too_far = fin false 1 (pos 13)

abbrev too_far_bits : ℕ
too_far_bits = 0x4600_0000

-- a corner at column x, and corner buffers with no place and with one (RULES 1.5, 1.6)
abbrev corner_of : Float → Corner
corner_of x = record { x = x; y = zero; strength = zero; neighbours = 0 }

abbrev no_place : Slices
no_place = slices [] [] [] []

abbrev one_place : Float → Slices
one_place x = slices (x ∷ []) (zero ∷ []) (zero ∷ []) (0 ∷ [])

-- the first place of an image or a map (RULES 1.4)
abbrev first : Place
first = record { x = 0; y = 0 }

-- parameters of a frame (RULES 1.7), all 0 but these
abbrev parameters : ℕ → Float → ℕ → FrameParams
parameters ring radius levels = params ring zero 0 0 0 radius levels 0 0

-- buffers of a frame, with no place except in the map (RULES 9.1)
abbrev with_map : List Float → Buffers
with_map m = buffers m [] no_place no_place

-- sides and parameters of a frame stream (RULES 11.1), all 0 but these
abbrev frame_of : ℕ → ℕ → ℕ → ℕ → Header
frame_of w h ring merge = header w h ring 0 0 0 0 merge 0 0 0

-- ---- what refuses a call, by its promise

-- RULES 3.8 and 3.9: a whole image as one box
abbrev patch : List ℕ → ℕ → ℕ → ℕ → List Float → ℕ
patch img w h ring d = response.refusal_of (view_of img w h ring 0 0 w h) ring (length d)

-- RULES 6.4 and 6.5: two levels at most, of any size
abbrev build : List ℕ → ℕ → ℕ → List ℕ → ℕ
build base w h d = build_refusal_of (ask (length base) (length d) w h 2 0)

abbrev level : ℕ → ℕ → ℕ → ℕ → ℕ → ℕ
level pixels places w h k = level_refusal_of (ask pixels places w h 2 0) k

-- RULES 4.6: window and radius 0, and a buffer with no place
abbrev peaks : (ℕ → ℕ → ℕ → Float → ℕ → ℕ → ℕ → Search) → List Float → ℕ → ℕ → ℕ → ℕ → ℕ
peaks search m w h ring held =
    detect.refusal_of (detect.conditions (length m) w h ring 0 0) (places_of no_place) held
    (length (detect.starts_in m (search w h ring zero 0 0 0)))

-- RULES 26.3, likewise
abbrev enough : List Float → ℕ → ℕ → ℕ → ℕ
enough m w h ring = lowest (detect.conditions (length m) w h ring 0 0)

-- RULES 9.7: with the parameters of a frame, and a buffer with no place
abbrev map_corners : Bool → List Float → ℕ → ℕ → ℕ → ℕ → ℕ
map_corners exact m w h ring held =
    let p = parameters ring zero 1 in
    detect.refusal_of (detect.conditions (length m) w h p.ring p.window p.centroid_radius)
    (places_of no_place) held (length (centres_in p exact m w h))

-- RULES 9.9: likewise, of all rows
abbrev row_corners : Bool → List Float → ℕ → ℕ → ℕ → ℕ → ℕ
row_corners exact m w h ring held =
    let p = parameters ring zero 1 in
    detect.refusal_of (detect.conditions (length m) w h p.ring p.window p.centroid_radius)
    (places_of no_place) held (length (centres_in_rows p exact m w h 0 h))

-- RULES 5.4: with a map
abbrev refine : ℕ → Float → List Float → ℕ → ℕ → ℕ
refine radius x m w h = center.refusal_of radius x zero true (length m) w h

-- RULES 7.3: an image of w by 0, and every other parameter 0
abbrev box : ℕ → ℕ → Float → ℕ
box w ring x =
    multiscale.refusal_of
    (record { width = w; height = 0; ring = ring; window = 0; centroid_radius = 0; search_radius = 0; level = 0 })
    (corner_of x)

-- RULES 8.5; with at most one place; into a buffer with no place (RULES 25.2); one slice (RULES 8.6), with scratch
-- space that has no place
abbrev merged : Float → ℕ → Slices → ℕ
merged radius count b = merge.refusal_of radius (places_of b) count b

abbrev within : Float → ℕ → Slices → ℕ
within radius count b = merge.refusal_of radius (min 1 (places_of b)) count b

abbrev apart : Float → ℕ → Slices → ℕ
apart radius count b = refusal_apart radius (places_of no_place) count b

abbrev slice : Float → ℕ → List Corner → ℕ
slice radius count cs = refusal_for radius count cs no_place

-- RULES 29.2 and 29.4
abbrev show : Slices → Edition → ℕ → ℕ
show b e place = showing.refusal_of (places_of b) e.count place

abbrev strike : Slices → Edition → ℕ → ℕ → ℕ
strike b e place change = striking.refusal_of (places_of b) e place change

-- RULES 9.1 and 9.5, by a choice of peaks; and for an upload (RULES 20.7)
abbrev frames : (FrameParams → Choice) → FrameParams → List ℕ → ℕ → ℕ → List Float → ℕ
frames choose p img w h m = frame.refusal_of (choose p) p img w h (with_map m)

abbrev photographs : (FrameParams → Choice) → FrameParams → List ℕ → List Float → ℕ
photographs choose p upload m = photograph.refusal_of (choose p) p upload (with_map m)

-- RULES 11.4
abbrev read : List ℕ → ℕ
read input = number_of (stream.answer_of (read_frame input))

-- RULES 30.2: into a buffer with no place
abbrev write : Header → List ℕ → ℕ
write h pixels = writer.refusal_of h pixels 0

-- RULES 27.4, 28.5, with buffers that have no place, and 28.7, with window and radius 0
abbrev retouched : List ℕ → List Float → ℕ → ℕ → ℕ → ℕ
retouched img m w h ring = retouch.refusal_of (length img) (length m) w h ring first

abbrev limited : List ℕ → List ℕ → ℕ → ℕ → ℕ → ℕ
limited low high w h ring = limits.refusal_of low high w h ring 0 0

abbrev surely : List ℤ → List ℤ → ℕ → ℕ → ℕ → ℕ
surely lows highs w h ring = sure.refusal_of (length lows) (length highs) w h ring 0 0 first

-- ---- several functions with one list (RULES 2.4)

-- 1, 2, 3, 10: a map without a cell, and one corner held in a buffer with no place
abbrev peak_numbers : (List Float → ℕ → ℕ → ℕ → ℕ → ℕ) → List ℕ
peak_numbers call = call [] 4097 0 5 0 ∷ call [] 1 1 5 0 ∷ call [] 0 0 0 0 ∷ call [] 0 0 5 1 ∷ []

-- 4, 5, 10: a corner with a NaN; a radius of 8,192; a count of one, and no place
abbrev merge_numbers : (Float → ℕ → Slices → ℕ) → List ℕ
merge_numbers call = call one 1 (one_place nan) ∷ call too_far 0 no_place ∷ call one 1 no_place ∷ []

-- 1, 2, 3, 5, 8, 9, 10: the whole case (RULES 14) has a corner, and there is no place for it
abbrev frame_numbers : (FrameParams → Choice) → List ℕ
frame_numbers choose =
    frames choose (parameters 5 zero 1) [] 4097 0 []
    ∷ frames choose (parameters 5 zero 1) [] 1 1 []
    ∷ frames choose (parameters 0 zero 1) [] 0 0 []
    ∷ frames choose (parameters 5 too_far 1) [] 0 0 []
    ∷ frames choose (parameters 5 zero 1) (0 ∷ []) 1 1 []
    ∷ frames choose (parameters 5 zero 2) (replicate 4 0) 2 2 (replicate 4 zero)
    ∷ frames choose (parameters 5 zero 1) whole_case 11 11 (replicate 121 zero)
    ∷ []

-- 1, 3, 5, 8, 9, 10, 12, 13: likewise, for uploads
abbrev photograph_numbers : (FrameParams → Choice) → List ℕ
photograph_numbers choose =
    photographs choose (parameters 5 zero 1) (bytes_of "P5 4097 0") []
    ∷ photographs choose (parameters 0 zero 1) (bytes_of "P5 0 0 255\n") []
    ∷ photographs choose (parameters 5 too_far 1) (bytes_of "P5 0 0 255\n") []
    ∷ photographs choose (parameters 5 zero 1) (bytes_of "P5 1 1 255\nA") []
    ∷ photographs choose (parameters 5 zero 2) (bytes_of "P5 2 2 255\nABCD") (replicate 4 zero)
    ∷ photographs choose (parameters 5 zero 1) (bytes_of "P5 11 11 255\n" ++ whole_case) (replicate 121 zero)
    ∷ photographs choose (parameters 5 zero 1) [] []
    ∷ photographs choose (parameters 5 zero 1) (bytes_of "P5 0 0 0\n") []
    ∷ []

-- ---- the table
unfoldable pub occurring : List Row
occurring =
    -- chess_response_u8_patch
    row (patch [] 4097 0 5 [] ∷ patch [] 1 1 5 [] ∷ patch [] 0 0 0 [] ∷ patch (0 ∷ []) 1 1 5 [] ∷ [])
    (1 ∷ 2 ∷ 3 ∷ 8 ∷ [])
    -- inner_patch, by whatever margin
    ∷ row (patch [] 4097 0 5 [] ∷ patch [] 1 1 5 [] ∷ patch [] 0 0 0 [] ∷ patch (0 ∷ []) 1 1 5 [] ∷ [])
    (1 ∷ 2 ∷ 3 ∷ 8 ∷ [])
    -- build_pyramid
    ∷ row (build [] 4097 0 [] ∷ build [] 1 1 [] ∷ build (replicate 4 0) 2 2 [] ∷ []) (1 ∷ 2 ∷ 9 ∷ [])
    -- level_at
    ∷ row (level 0 0 4097 0 0 ∷ level 0 0 1 1 0 ∷ level 0 0 0 0 2 ∷ level 4 0 2 2 0 ∷ []) (1 ∷ 2 ∷ 3 ∷ 9 ∷ [])
    -- find_peaks, by computed and by exact values
    ∷ row (peak_numbers (peaks (detect.search_by false))) (1 ∷ 2 ∷ 3 ∷ 10 ∷ [])
    ∷ row (peak_numbers (peaks (detect.search_by true))) (1 ∷ 2 ∷ 3 ∷ 10 ∷ [])
    -- has_peaks
    ∷ row (enough [] 4097 0 5 ∷ enough [] 1 1 5 ∷ enough [] 0 0 0 ∷ []) (1 ∷ 2 ∷ 3 ∷ [])
    -- add_map_corners, by computed and by exact values
    ∷ row (peak_numbers (map_corners false)) (1 ∷ 2 ∷ 3 ∷ 10 ∷ [])
    ∷ row (peak_numbers (map_corners true)) (1 ∷ 2 ∷ 3 ∷ 10 ∷ [])
    -- add_row_corners, likewise
    ∷ row (peak_numbers (row_corners false)) (1 ∷ 2 ∷ 3 ∷ 10 ∷ [])
    ∷ row (peak_numbers (row_corners true)) (1 ∷ 2 ∷ 3 ∷ 10 ∷ [])
    -- refine
    ∷ row (refine 0 zero [] 4097 0 ∷ refine 0 zero [] 1 1 ∷ refine 17 zero [] 0 0 ∷ refine 0 nan [] 0 0 ∷ [])
    (1 ∷ 2 ∷ 3 ∷ 4 ∷ [])
    -- compute_roi
    ∷ row (box 4097 5 zero ∷ box 0 0 zero ∷ box 0 5 nan ∷ []) (1 ∷ 3 ∷ 4 ∷ [])
    -- merge_corners_simple, merge_by_table and merge_corners_naive, whose promises have one table
    ∷ row (merge_numbers merged) (4 ∷ 5 ∷ 10 ∷ [])
    -- merge_within
    ∷ row (merge_numbers within) (4 ∷ 5 ∷ 10 ∷ [])
    -- merge_apart
    ∷ row (merge_numbers apart) (4 ∷ 5 ∷ 10 ∷ [])
    -- merge_corner_slice
    ∷ row (slice one 1 (corner_of nan ∷ []) ∷ slice too_far 0 [] ∷ slice one 1 [] ∷ []) (4 ∷ 5 ∷ 10 ∷ [])
    -- show_corner
    ∷ row (show no_place (edition 1 0) 0 ∷ show no_place (edition 0 0) 0 ∷ []) (10 ∷ 17 ∷ [])
    -- strike_corner
    ∷ row
    (strike no_place (edition 1 0) 0 0
    ∷ strike no_place (edition 0 0) 0 1
    ∷ strike no_place (edition 0 0) 0 0
    ∷ strike (one_place zero) (edition 1 4294967295) 0 4294967295
    ∷ [])
    (10 ∷ 16 ∷ 17 ∷ 18 ∷ [])
    -- find_corners, by computed and by exact values
    ∷ row (frame_numbers (λ p. choice_of p false)) (1 ∷ 2 ∷ 3 ∷ 5 ∷ 8 ∷ 9 ∷ 10 ∷ [])
    ∷ row (frame_numbers (λ p. choice_of p true)) (1 ∷ 2 ∷ 3 ∷ 5 ∷ 8 ∷ 9 ∷ 10 ∷ [])
    -- read_pgm
    ∷ row (pgm.refusal_of (bytes_of "P5 4097 0") ∷ pgm.refusal_of [] ∷ pgm.refusal_of (bytes_of "P5 0 0 0\n") ∷ [])
    (1 ∷ 12 ∷ 13 ∷ [])
    -- find_pgm_corners, by computed and by exact values
    ∷ row (photograph_numbers (λ p. choice_of p false)) (1 ∷ 3 ∷ 5 ∷ 8 ∷ 9 ∷ 10 ∷ 12 ∷ 13 ∷ [])
    ∷ row (photograph_numbers (λ p. choice_of p true)) (1 ∷ 3 ∷ 5 ∷ 8 ∷ 9 ∷ 10 ∷ 12 ∷ 13 ∷ [])
    -- read_frame
    ∷ row
    (read (1 ∷ 97 ∷ 0 ∷ 0 ∷ 0 ∷ [])
    ∷ read (1 ∷ 0 ∷ 0 ∷ 0 ∷ 0 ∷ 2 ∷ replicate 16 0)
    ∷ read ((1 ∷ 0 ∷ 0 ∷ 0 ∷ 0 ∷ 2 ∷ 5 ∷ replicate 10 0) ++ (70 ∷ replicate 4 0))
    ∷ read (0 ∷ [])
    ∷ read []
    ∷ read (2 ∷ [])
    ∷ [])
    (1 ∷ 3 ∷ 5 ∷ 6 ∷ 7 ∷ 11 ∷ [])
    -- write_frame
    ∷ row
    (write (frame_of 97 0 5 0) []
    ∷ write (frame_of 1 1 5 0) []
    ∷ write (frame_of 0 0 0 0) []
    ∷ write (frame_of 0 0 5 too_far_bits) []
    ∷ write (frame_of 0 0 5 0) []
    ∷ [])
    (1 ∷ 2 ∷ 3 ∷ 5 ∷ 19 ∷ [])
    -- write_corners (RULES 12.3)
    ∷ row (listing.refusal_of 512 513 ∷ []) (10 ∷ [])
    -- retouch
    ∷ row
    (retouched [] [] 4097 0 5 ∷ retouched [] [] 1 1 5 ∷ retouched [] [] 0 0 0 ∷ retouched [] [] 0 0 5 ∷ [])
    (1 ∷ 2 ∷ 3 ∷ 14 ∷ [])
    -- response_limits
    ∷ row
    (limited [] [] 4097 0 5
    ∷ limited [] [] 1 1 5
    ∷ limited [] [] 0 0 0
    ∷ limited (0 ∷ []) (0 ∷ []) 1 1 5
    ∷ limited (1 ∷ []) (0 ∷ []) 1 1 5
    ∷ [])
    (1 ∷ 2 ∷ 3 ∷ 8 ∷ 15 ∷ [])
    -- sure_peak
    ∷ row (surely [] [] 4097 0 5 ∷ surely [] [] 1 1 5 ∷ surely [] [] 0 0 0 ∷ surely [] [] 0 0 5 ∷ [])
    (1 ∷ 2 ∷ 3 ∷ 14 ∷ [])
    -- holding (RULES 32.3)
    ∷ row (retention.refusal_of 0 0 0 ∷ retention.refusal_of 1 0 (2 ^ 40 + 1) ∷ []) (6 ∷ 20 ∷ [])
    ∷ []

-- each number of each list is given
abbrev pub NumbersOccur : Type 0
NumbersOccur = map (λ (r : Row). r.given) occurring ≡ map (λ (r : Row). r.said) occurring
