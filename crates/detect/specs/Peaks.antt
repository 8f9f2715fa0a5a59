-- Peak choice over a map of w by h, by a few questions about the values at its places (RULES 4.2 to 4.4; neighbors.rs,
-- detect.rs).
use Rattle.std.specs.Prelude.{ℕ, ◌+◌, ◌-◌, ◌*◌, min, Bool, true, false, cond, not, ◌&&◌, List, [], ◌∷◌, negsuc, ◌==◌}
use Rattle.std.specs.Prelude.{nat_le, slice_index_or, Float, Option, None, Some}
use Rattle.std.specs.Float.{nan, fin, binary32}
use Rattle.std.specs.Float.Ieee.{add, lt, le, eq}
use Rattle.std.specs.Option.{unwrap_or}
use Rattle.lists.specs.Places.{Place, block, any, keep, count}
use Rattle.float32.specs.Float32.{zero}

-- What peak choice asks about a map's values; we call it a reading of the map.
pub record CellTests : Type 0 where
  -- the value at p is above the threshold
  pub above : Place → Bool
  -- the value at q is larger than that at p
  pub larger : Place → Place → Bool
  -- the value at q is above 0
  pub positive : Place → Bool

abbrev pub same : Place → Place → Bool
same p q = p.x == q.x && p.y == q.y

-- RULES 4.2: the square of 2r + 1 cells a side around p, clipped to the map
unfoldable pub square : ℕ → ℕ → ℕ → Place → List Place
square w h r p = block (p.x - r) (min (p.x + r + 1) w) (p.y - r) (min (p.y + r + 1) h)

-- and the window of radius r around p: the square without its centre
unfoldable pub window : ℕ → ℕ → ℕ → Place → List Place
window w h r p = keep (λ q. not (same q p)) (square w h r p)

-- RULES 4.3: a centre is beaten only by a strictly larger cell of its window
unfoldable pub beaten : (Place → Place → Bool) → ℕ → ℕ → ℕ → Place → Bool
beaten larger w h r p = any (λ q. larger q p) (window w h r p)

-- RULES 23.1: its ties, the cells of the window that equal it
unfoldable pub equals : (Place → Place → Bool) → ℕ → ℕ → ℕ → Place → ℕ
equals equal w h r p = count (λ q. equal q p) (window w h r p)

-- and the window test: a centre is beaten, which is None, or top, with the number of its ties
unfoldable pub window_test : (Place → Place → Bool) → (Place → Place → Bool) → ℕ → ℕ → ℕ → Place → Option ℕ
window_test larger equal w h r p = cond (beaten larger w h r p) None (Some (equals equal w h r p))

-- RULES 23.2: the ties that count, 0 if the centre is beaten
abbrev pub ties_of : Option ℕ → ℕ
ties_of t = unwrap_or t 0

-- its positive neighbours: the cells of the window that are above 0
unfoldable pub positives : (Place → Bool) → ℕ → ℕ → ℕ → Place → ℕ
positives positive w h r p = count positive (window w h r p)

-- a peak is above the threshold, is not beaten, and has enough positive neighbours
unfoldable pub is_peak : CellTests → ℕ → ℕ → ℕ → ℕ → Place → Bool
is_peak v w h r least p = v.above p && (not (beaten v.larger w h r p) && nat_le least (positives v.positive w h r p))

-- RULES 4.4: the peaks inside a border, in row order; a side at most twice the border leaves no place for one
unfoldable pub peak_places : CellTests → ℕ → ℕ → ℕ → ℕ → ℕ → List Place
peak_places v w h border r least = keep (is_peak v w h r least) (block border (w - border) border (h - border))

-- ---- the reading of a list of floats, a map in row order (RULES 1.4)

abbrev pub value_at : List Float → ℕ → Place → Float
value_at m w p = slice_index_or m (p.y * w + p.x) nan

abbrev pub larger_in : List Float → ℕ → Place → Place → Bool
larger_in m w q p = lt (value_at m w p) (value_at m w q)

-- RULES 23.1, by IEEE 754: NaN equals nothing, and -0 equals +0
abbrev pub equal_in : List Float → ℕ → Place → Place → Bool
equal_in m w q p = eq (value_at m w p) (value_at m w q)

abbrev pub positive_in : List Float → ℕ → Place → Bool
positive_in m w q = lt zero (value_at m w q)

-- RULES 34.2: 1/256; the computed values of one exact value are nearer, those of two exact values further apart
-- (`larger-exactly` of agreement)
abbrev pub slack : Float
slack = fin false 1 (negsuc 7)

-- a cell with value u beats one with value v: it is larger and, by exact values, larger by more than the slack
abbrev pub beats : Bool → Float → Float → Bool
beats false v u = lt v u
beats true v u = lt v u && lt (add binary32 v slack) u

abbrev pub larger_by : Bool → List Float → ℕ → Place → Place → Bool
larger_by exact m w q p = beats exact (value_at m w p) (value_at m w q)

-- at or below t
abbrev pub is_low : Float → Float → Bool
is_low t v = le v t

-- RULES 4.3: a cell is dropped if it is at or below the threshold, so a NaN cell passes
abbrev pub computed : List Float → ℕ → Float → CellTests
computed m w t =
    record { above = λ p. not (is_low t (value_at m w p)); larger = larger_in m w; positive = positive_in m w }

-- the same for either choice
abbrev pub reading : Bool → List Float → ℕ → Float → CellTests
reading exact m w t =
    record { above = λ p. not (is_low t (value_at m w p)); larger = larger_by exact m w; positive = positive_in m w }
