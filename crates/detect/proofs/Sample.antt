-- The definitions on a small map: equal cells do not beat each other and are ties, the window is clipped, neighbours count from `least` on,
-- a NaN cell is above every threshold, and nothing is above +infinity. By computation. Assumes nothing.
use Rattle.std.proofs.Common.{◌≡◌, ℕ, ◌+◌, ◌*◌, false, List, [], ◌∷◌, get_or, ℤ, pos, refl, None, Some}
use lib.Ieee.{Float, nan, inf, fin, lt, le, eq}
use Rattle.lists.specs.Places.{Place, counted, range, row, rows_from, block, count}
use Rattle.float32.specs.Float32.{zero}
use Rattle.detect.specs.Peaks.{square, window, beaten, equals, window_test, positives, is_peak, peak_places, larger_in, equal_in, computed}
use Rattle.detect.specs.Exact.{fifths_above, exact}

-- 1 2 1
-- 2 5 5
-- 0 3 1
cells : List ℕ
cells = 1 ∷ 2 ∷ 1 ∷ 2 ∷ 5 ∷ 5 ∷ 0 ∷ 3 ∷ 1 ∷ []

fifths : Place → ℤ
fifths p = pos (get_or cells (p.y * 3 + p.x) 0)

-- the same as whole numbers, but for a NaN in the last place
floats : List Float
floats =
    fin false 1 (pos 0) ∷ fin false 1 (pos 1) ∷ fin false 1 (pos 0)
    ∷ fin false 1 (pos 1) ∷ fin false 5 (pos 0) ∷ fin false 5 (pos 0)
    ∷ zero ∷ fin false 3 (pos 0) ∷ nan
    ∷ []

abbrev at : ℕ → ℕ → Place
at x y = record { x = x; y = y }

-- both fives: 7 and 5 neighbours above 0
ties : peak_places (exact fifths zero) 3 3 0 1 5 ≡ at 1 1 ∷ at 2 1 ∷ []
unfolding cells fifths peak_places is_peak beaten positives window square counted range row rows_from block count fifths_above
ties = refl

supported : peak_places (exact fifths zero) 3 3 0 1 6 ≡ at 1 1 ∷ []
unfolding cells fifths peak_places is_peak beaten positives window square counted range row rows_from block count fifths_above
supported = refl

-- 5 fifths are not above the threshold 1; nothing is above +infinity
thresholds : (peak_places (exact fifths (fin false 1 (pos 0))) 3 3 0 1 0 ≡ []) × (peak_places (exact fifths (inf false)) 3 3 0 1 0 ≡ [])
unfolding cells fifths peak_places is_peak beaten positives window square counted range row rows_from block count fifths_above
thresholds = (refl, refl)

-- the computed list: the fives and the NaN cell, and at +infinity the NaN cell alone
nans : (peak_places (computed floats 3 zero) 3 3 0 1 0 ≡ at 1 1 ∷ at 2 1 ∷ at 2 2 ∷ [])
    × (peak_places (computed floats 3 (inf false)) 3 3 0 1 0 ≡ at 2 2 ∷ [])
unfolding floats peak_places is_peak beaten positives window square counted range row rows_from block count lt le eq
nans = (refl, refl)

-- the window test: each five is top with the other as its tie, the NaN cell among its neighbours is top with none, and a two is beaten
tests : (window_test (larger_in floats 3) (equal_in floats 3) 3 3 1 (at 1 1) ≡ Some 1)
    × (window_test (larger_in floats 3) (equal_in floats 3) 3 3 1 (at 2 2) ≡ Some 0)
    × (window_test (larger_in floats 3) (equal_in floats 3) 3 3 1 (at 0 1) ≡ None)
unfolding floats window_test beaten equals window square counted range row rows_from block count lt eq
tests = (refl, refl, refl)

-- inside a border of 1 there is one cell
inside : peak_places (computed floats 3 zero) 3 3 1 1 0 ≡ at 1 1 ∷ []
unfolding floats peak_places is_peak beaten positives window square counted range row rows_from block count lt le eq
inside = refl
