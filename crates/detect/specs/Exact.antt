-- Exact peak choice (RULES 10.1): the same choice, by exact values in whole fifths.
use Rattle.std.specs.Prelude.{◌*◌, Bool, false, ◌&&◌, List, ℤ, pos, negsuc, int_lt, nat_lt, Float}
use Rattle.std.specs.Float.Ieee.Positive.{num, den}
use Rattle.std.specs.Float.Ieee.Scale.{finite}
use Rattle.lists.specs.Places.{Place}
use Rattle.detect.specs.declared.Search.{Search}
use Rattle.detect.specs.Peaks.{CellTests}
use Rattle.detect.specs.Detect.{peaks_by}

-- k fifths are above a lifted threshold t = num t / den t, not NaN and not negative: as numbers, k > 5 t. Nothing is
-- above +infinity
unfoldable pub fifths_above : Float → ℤ → Bool
fifths_above t (pos k) = finite t && nat_lt (5 * num t) (k * den t)
fifths_above t (negsuc k) = false

-- the reading of a map whose exact value at p is `fifths p`
abbrev pub exact : (Place → ℤ) → Float → CellTests
exact fifths t = record {
  above = λ p. fifths_above t (fifths p);
  larger = λ q p. int_lt (fifths p) (fifths q);
  positive = λ q. int_lt (pos 0) (fifths q);
}

-- the exact list of a map that is searched with s
abbrev pub exact_peaks : (Place → ℤ) → Search → List Place
exact_peaks fifths s = peaks_by (exact fifths s.threshold) s
