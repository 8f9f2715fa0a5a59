-- The worked cases that RULES 14 marks P, as one table: what the definitions give and what the rules say, both as lists
-- of integers.
use Rattle.std.specs.Prelude.{ℕ, ◌≡◌, List, [], ◌∷◌, map, ℤ, pos, negsuc, length, replicate, set, Bool, true, false}
use Rattle.std.specs.Prelude.{cond, Float}
use Rattle.std.specs.Float.{fin, binary32}
use Rattle.std.specs.Float.Ieee.{lt, to_bits}
use Rattle.float32.specs.Float32.{zero, float_of}
use Rattle.corner_list.specs.declared.Corner.{Corner}
use Rattle.multiscale.specs.declared.RoiContext.{RoiContext}
use Rattle.lists.specs.Refusals.{number_of}
use Rattle.multiscale.specs.Multiscale.{roi_of, values_of}
use Rattle.pyramid_levels.specs.Levels.{level_side, level_count}
use Rattle.pyramid.specs.Pyramid.{halved}
use Rattle.ring.specs.Ring.{ring5}
use Rattle.response.specs.Response.{response_of}
use Rattle.response.specs.Exact.{fifths, fifths_at}
use Rattle.detect.specs.Peaks.{beats}
use Rattle.merge.specs.Merge.{result_of}
use Rattle.merge_naive.specs.MergeNaive.{naive_of}
use Rattle.merge_naive.specs.Case.{one, three}

pub record Case : Type 0 where
  pub given : List ℤ
  pub said : List ℤ

abbrev case : List ℤ → List ℤ → Case
case g s = record { given = g; said = s }

-- a case of natural numbers
abbrev naturals : List ℕ → List ℕ → Case
naturals g s = case (map pos g) (map pos s)

-- ---- images

-- 11 by 11 pixels of 100
abbrev pub flat : List ℕ
flat = replicate 121 100

-- the whole case's image: 11 by 11, ring places 0..3 and 8..11 around (5, 5) are 255, the cross 128, all else 0
abbrev pub whole_case : List ℕ
whole_case =
    0 ∷ 0 ∷ 0 ∷ 0 ∷ 0 ∷ 255 ∷ 0 ∷ 255 ∷ 0 ∷ 0 ∷ 0 ∷
    0 ∷ 0 ∷ 0 ∷ 0 ∷ 0 ∷ 0 ∷ 0 ∷ 0 ∷ 0 ∷ 0 ∷ 0 ∷
    0 ∷ 0 ∷ 0 ∷ 0 ∷ 0 ∷ 0 ∷ 0 ∷ 0 ∷ 255 ∷ 0 ∷ 0 ∷
    0 ∷ 0 ∷ 0 ∷ 0 ∷ 0 ∷ 0 ∷ 0 ∷ 0 ∷ 0 ∷ 0 ∷ 255 ∷
    0 ∷ 0 ∷ 0 ∷ 0 ∷ 0 ∷ 128 ∷ 0 ∷ 0 ∷ 0 ∷ 0 ∷ 0 ∷
    0 ∷ 0 ∷ 0 ∷ 0 ∷ 128 ∷ 128 ∷ 128 ∷ 0 ∷ 0 ∷ 0 ∷ 0 ∷
    0 ∷ 0 ∷ 0 ∷ 0 ∷ 0 ∷ 128 ∷ 0 ∷ 0 ∷ 0 ∷ 0 ∷ 0 ∷
    255 ∷ 0 ∷ 0 ∷ 0 ∷ 0 ∷ 0 ∷ 0 ∷ 0 ∷ 0 ∷ 0 ∷ 0 ∷
    0 ∷ 0 ∷ 255 ∷ 0 ∷ 0 ∷ 0 ∷ 0 ∷ 0 ∷ 0 ∷ 0 ∷ 0 ∷
    0 ∷ 0 ∷ 0 ∷ 0 ∷ 0 ∷ 0 ∷ 0 ∷ 0 ∷ 0 ∷ 0 ∷ 0 ∷
    0 ∷ 0 ∷ 0 ∷ 255 ∷ 0 ∷ 255 ∷ 0 ∷ 0 ∷ 0 ∷ 0 ∷ 0 ∷
    []

-- the same with its centre one brighter, a cross sum of 641
abbrev pub brighter : List ℕ
brighter = set whole_case 60 129

-- ---- boxes: base 200 by 200, border 9, scale 1/2, search 3
abbrev context : RoiContext
context =
    record { width = 200; height = 200; ring = 5; window = 2; centroid_radius = 2; search_radius = 3; level = 1 }

abbrev seed : Float → Float → Corner
seed x y = record { x = x; y = y; strength = zero; neighbours = 0 }

-- the refusal's number, 0 for none, and the box, which is empty for "no box"
abbrev box : Corner → List ℕ
box s = number_of (roi_of context s) ∷ values_of (roi_of context s)

-- ---- corners: the bits of their columns
abbrev column_bits : List Corner → List ℕ
column_bits = map (λ (c : Corner). to_bits binary32 c.x)

-- ---- 1 for yes, 0 for no
abbrev told : Bool → ℕ
told b = cond b 1 0

-- ---- the table
unfoldable pub cases : List Case
unfolding fifths_at halved level_count roi_of result_of naive_of response_of
cases =
    -- box 0,0,0,1 → 0; 0,0,1,1 → 1; four 255 → 255
    naturals (halved (0 ∷ 0 ∷ 0 ∷ 1 ∷ []) 2 2) (0 ∷ [])
    ∷ naturals (halved (0 ∷ 0 ∷ 1 ∷ 1 ∷ []) 2 2) (1 ∷ [])
    ∷ naturals (halved (replicate 4 255) 2 2) (255 ∷ [])
    -- 5 by 3 halves to 2 by 1
    ∷ naturals (level_side 5 1 ∷ level_side 3 1 ∷ length (halved (replicate 15 7) 5 3) ∷ []) (2 ∷ 1 ∷ 2 ∷ [])
    -- minimum 0, base 0 by 0, count 1 → one level
    ∷ naturals (level_count 0 0 1 0 ∷ []) (1 ∷ [])
    -- flat 100 → fifths 0
    ∷ case (fifths_at flat 11 11 ring5 5 5 ∷ []) (pos 0 ∷ [])
    -- the whole case's centre → 10,160 fifths; cross sum 641 → 10,144
    ∷ case (fifths_at whole_case 11 11 ring5 5 5 ∷ []) (pos 10160 ∷ [])
    ∷ case (fifths_at brighter 11 11 ring5 5 5 ∷ []) (pos 10144 ∷ [])
    -- SR 8, DR 0, ring sum 1,600, cross sum 501; and 8, 0, 32, 11 → 24 fifths both, and the first float is larger
    ∷ case (fifths 8 0 1600 501 ∷ fifths 8 0 32 11 ∷ []) (pos 24 ∷ pos 24 ∷ [])
    ∷ naturals (to_bits binary32 (response_of 8 0 1600 501) ∷ to_bits binary32 (response_of 8 0 32 11) ∷ [])
    (0x4099_9a00 ∷ 0x4099_9998 ∷ [])
    -- so the first beats the second by floats, but not by exact values (RULES 34.2); 1 fifth beats 0, and with a slack
    -- of 1/4 it would not
    ∷ naturals (told (beats false (response_of 8 0 32 11) (response_of 8 0 1600 501)) ∷ told
    (beats true (response_of 8 0 32 11) (response_of 8 0 1600 501)) ∷ [])
    (1 ∷ 0 ∷ [])
    ∷ naturals (told (beats true zero (response_of 1 0 4 1)) ∷ told
    (lt (fin false 1 (negsuc 1)) (response_of 1 0 4 1)) ∷ []) (1 ∷ 0 ∷ [])
    -- seed (50,40) → (89,69,112,92); (7.5,50) → no box; (8,50) → box with x from 9 to 28
    ∷ naturals (box (seed (float_of 50) (float_of 40))) (0 ∷ 89 ∷ 69 ∷ 112 ∷ 92 ∷ [])
    ∷ naturals (box (seed (fin false 15 (negsuc 0)) (float_of 50))) (0 ∷ [])
    ∷ naturals (box (seed (float_of 8) (float_of 50))) (0 ∷ 9 ∷ 89 ∷ 28 ∷ 112 ∷ [])
    -- merge radius 1, (1 - 2^-24, 0), (2, 0), (0, 100) → all three by cells; the first and the third by distance alone
    ∷ naturals (column_bits (result_of one three)) (0x3f7f_ffff ∷ 0x4000_0000 ∷ 0 ∷ [])
    ∷ naturals (column_bits (naive_of one three)) (0x3f7f_ffff ∷ 0 ∷ [])
    ∷ []

-- each case gives what the rules say
abbrev pub CasesHold : Type 0
CasesHold = map (λ (c : Case). c.given) cases ≡ map (λ (c : Case). c.said) cases
