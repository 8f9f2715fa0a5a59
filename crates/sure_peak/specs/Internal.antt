-- What the private functions require of their arguments: no public promise depends on it.
use Rattle.std.specs.Prelude.{ℕ, ◌≤◌, List, length, ℤ}
use Rattle.lists.specs.Limits.{largest_radius}
use Rattle.lists.specs.Places.{Place}
use Rattle.lists.specs.Internal.{Sized}
use Rattle.detect.specs.Internal.{Inside}
use Rattle.detect.specs.Peaks.{CellTests}
use Rattle.sure_peak.specs.SurePeak.{stored_fifths, by_limits}

-- the reading of two maps w wide by what is sure
abbrev pub sure : List ℤ → List ℤ → ℕ → ℕ → CellTests
sure lows highs w threshold = by_limits (stored_fifths lows w) (stored_fifths highs w) threshold

-- a map of w by h, and a window of that radius around a place of it that lies in the map
pub record Windowed (m : List ℤ) (w h r : ℕ) (p : Place) : Type 0 where
  pub cells : Sized (length m) w h
  pub radius : r ≤ largest_radius
  pub inside : Inside w h r p
