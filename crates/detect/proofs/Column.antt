-- The definitions of RULES 26 on a map of 11 by 13 whose border of 5 leaves three cells, which hold 1, 2 and 3, and on a map of 10 by 13,
-- which is no wider than twice the border. By computation. Assumes nothing.
use Rattle.std.proofs.Common.{◌≡◌, ℕ, List, [], ◌∷◌, set, replicate, refl, Ok}
use lib.Ieee.{Float, lt, le, eq, of_int}
use Rattle.lists.specs.Places.{counted, range, row, rows_from, block, count, flat_map}
use Rattle.float32.specs.Float32.{zero, lift, float_of}
use Rattle.detect.specs.Peaks.{square, window, beaten, positives, is_peak, peak_places}
use Rattle.detect.specs.Detect.{search_of, peaks_in}
use Rattle.detect.specs.Enough.{rows_inside, enough_of, values_of}

column : List Float
column = set (set (set (replicate 143 zero) 60 (float_of 1)) 71 (float_of 2)) 82 (float_of 3)

-- 1 for yes and 0 for no, and the rows, for so many peaks of a map of w by 13
abbrev enough : List Float → ℕ → ℕ → List ℕ
enough m w wanted = let s = search_of w 13 5 zero 0 0 0 in values_of (Ok (enough_of s wanted (peaks_in m s)))

-- none to four wanted
high : flat_map (enough column 11) (0 ∷ 1 ∷ 2 ∷ 3 ∷ 4 ∷ []) ≡ 1 ∷ 0 ∷ 1 ∷ 1 ∷ 1 ∷ 2 ∷ 1 ∷ 3 ∷ 0 ∷ 3 ∷ []
unfolding column enough_of rows_inside peak_places is_peak beaten positives window square counted range row rows_from block count lt le
    eq of_int lift
high = refl

-- one or none of a map that is narrow, and high enough
narrow : flat_map (enough (replicate 130 (float_of 7)) 10) (1 ∷ 0 ∷ []) ≡ 0 ∷ 0 ∷ 1 ∷ 0 ∷ []
unfolding enough_of rows_inside peak_places is_peak beaten positives window square counted range row rows_from block count lt le
    eq of_int lift
narrow = refl
