-- RULES 28.6: a sure peak of two maps, with a low and a high number of fifths for each cell.
use Rattle.std.specs.Prelude.{ℕ, ◌+◌, ◌*◌, Bool, ◌&&◌, List, leb, ltb, get_or, ℤ, pos}
use Rattle.std.specs.Int.Signed.{lt_z}
use Rattle.lists.specs.Places.{Place}
use Rattle.detect.specs.Peaks.{CellTests, is_peak}

-- the number of fifths at a place of a map in row order
abbrev pub stored_fifths : List ℤ → ℕ → Place → ℤ
stored_fifths m w p = get_or m (p.y * w + p.x) (pos 0)

-- the reading, by what is sure, of a map whose exact value at each place is known to lie from a low number of fifths up
-- to a high one: a cell is above the threshold if its low number is above five times that; it can be larger than
-- another if its high number is above the other's low one; and it is above 0 if its low number is. If both numbers are
-- the exact value, it is the reading by exact values (RULES 10.1)
abbrev pub by_limits : (Place → ℤ) → (Place → ℤ) → ℕ → CellTests
by_limits low high threshold = record {
  above = λ p. lt_z (pos (5 * threshold)) (low p);
  larger = λ q p. lt_z (low p) (high q);
  positive = λ q. lt_z (pos 0) (low q);
}

-- a place no nearer to an edge of a map of w by h than the border (RULES 4.3)
abbrev pub inside_border : ℕ → ℕ → ℕ → Place → Bool
inside_border w h border p = (leb border p.x && ltb (p.x + border) w) && (leb border p.y && ltb (p.y + border) h)

-- a sure peak is a peak (RULES 4.3) by that reading, inside the border given by a ring, a window and a centroid radius
unfoldable pub is_sure : List ℤ → List ℤ → ℕ → ℕ → ℕ → ℕ → ℕ → ℕ → ℕ → Place → Bool
is_sure lows highs w h ring threshold window least centroid p =
    inside_border w h (ring + window + centroid) p && is_peak
    (by_limits (stored_fifths lows w) (stored_fifths highs w) threshold) w h window least p
