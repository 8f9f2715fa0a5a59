-- What the private functions require and promise: no public promise depends on it.
use Rattle.std.specs.Prelude.{◌≡◌, ℕ, zero, suc, ◌+◌, ◌-◌, ◌*◌, ◌/◌, ◌%◌, ◌<◌, ◌≤◌, Bool, true, false, cond, ◌||◌, List}
use Rattle.std.specs.Prelude.{[], ◌∷◌, ◌++◌, length, nat_le, nat_lt, slice_index, slice_index_or, Float, Option, Some}
use Rattle.std.specs.Prelude.{None}
use Rattle.std.specs.Float.{nan}
use Rattle.std.specs.Float.Ieee.{lt, le, eq}
use Rattle.lists.specs.Limits.{largest_side, largest_radius, largest_border}
use Rattle.lists.specs.Places.{Place, row, block, any, keep, count}
use Rattle.float32.specs.Float32 as float32
use Rattle.detect.specs.declared.Search.{Search}
use Rattle.detect.specs.declared.searching.Spot.{Spot}
use Rattle.detect.specs.declared.neighbors.Asked.{Asked}
use Rattle.detect.specs.declared.neighbors.Asked.TheVariants.{Positive, AtLeast, Equal}
use Rattle.detect.specs.Peaks.{window, value_at, beats, larger_by, beaten, is_low}
use Rattle.detect.specs.Detect.{peak_in, neighbours_at, ties_at}

-- column x of row y
abbrev pub place : ℕ → ℕ → Place
place x y = record { x = x; y = y }

-- RULES 4.3: a place no nearer to an edge than the border
pub record Inside (w h border : ℕ) (p : Place) : Type 0 where
  pub left : border ≤ p.x
  pub right : p.x + border < w
  pub top : border ≤ p.y
  pub bottom : p.y + border < h

-- a map that can be searched with s
pub record Searchable (m : List Float) (s : Search) : Type 0 where
  pub size : length m ≡ s.w * s.h
  pub wide : s.w ≤ largest_side
  pub high : s.h ≤ largest_side
  pub radius : s.window ≤ largest_radius
  pub inside : s.window ≤ s.border
  pub narrow : s.border ≤ largest_border

-- ---- the window

-- the cells of a row of the largest one
abbrev pub largest_row : ℕ
largest_row = 2 * largest_radius + 1

-- whether a cell of value u is counted for a centre of value v: it is above 0, it is at least v, or it equals v
abbrev pub is_counted : Asked → Float → Float → Bool
is_counted Positive v u = lt float32.zero u
is_counted AtLeast v u = le v u
is_counted Equal v u = eq v u

-- how many cells of the window around p are counted
abbrev pub counted_at : List Float → Search → Place → Asked → Float → ℕ
counted_at m s p asked v = count (λ q. is_counted asked v (value_at m s.w q)) (window s.w s.h s.window p)

-- whether the cell at p is beaten in its window, by computed or by exact values
abbrev pub beaten_at : Bool → List Float → Search → Place → Bool
beaten_at exact m s p = beaten (larger_by exact m s.w) s.w s.h s.window p

-- the four cells beside cell i of a map of width w: above, below, left and right of it
abbrev pub cells_beside : List Float → ℕ → ℕ → List Float
cells_beside m w i =
    slice_index_or m (i - w) nan ∷ slice_index_or m (i + w) nan ∷ slice_index_or m
    (i - 1) nan ∷ slice_index_or m (i + 1) nan ∷ []

-- u is the value of one of them: if u passes a test, one of them does
pub record Beside (m : List Float) (w i : ℕ) (u : Float) : Type 0 where
  pub one_of : (f : Float → Bool) → f u ≡ true → any f (cells_beside m w i) ≡ true

-- u is the value of one of the five cells from place a on
pub record OfFive (m : List Float) (a : ℕ) (u : Float) : Type 0 where
  pub column : ℕ
  pub near : column < 5
  pub is : u ≡ slice_index_or m (a + column) nan

-- u is the value of one of the five by five cells whose first is at place a
pub record OfSquare (m : List Float) (w a : ℕ) (u : Float) : Type 0 where
  pub row : ℕ
  pub near : row < 5
  pub five : OfFive m (a + row * w) u

-- u is what cell i of a map of width w is compared with: one of the cells beside it, or the cell itself
pub record Rival (m : List Float) (w i : ℕ) (beside : Bool) (u : Float) : Type 0 where
  pub of_four : beside ≡ true → Beside m w i u
  pub itself : beside ≡ false → u ≡ slice_index_or m i nan

-- ---- the search

-- the test of a place: the peak there, if it is one, with its positive neighbours and its ties
abbrev pub peak_test : List Float → Search → Place → Option Spot
peak_test m s p =
    cond (peak_in m s p)
    (Some (record { x = p.x; y = p.y; neighbours = neighbours_at m s p; ties = ties_at m s p })) None

-- how many cells are compared at a time
abbrev pub run_cells : ℕ
run_cells = 16

-- a run from place `at` on lies in the map, and so do the cells beside its cells, where they are compared
pub record RunInMap (m : List Float) (w at : ℕ) (beside : Bool) : Type 0 where
  pub within : at + run_cells ≤ length m
  pub around : beside ≡ true → (1 ≤ w) × (w ≤ at) × (at + run_cells + w ≤ length m)

-- cell i is no peak at a threshold of t: it is at or below t, or its rival beats it
pub record Passed (m : List Float) (w : ℕ) (t : Float) (beside exact : Bool) (i : ℕ) : Type 0 where
  pub rival : Float
  pub is : Rival m w i beside rival
  pub passed : (is_low t (slice_index_or m i nan) || beats exact (slice_index_or m i nan) rival) ≡ true

-- the first n cells of the run from `at` on are none
pub record RunPassed (m : List Float) (w : ℕ) (t : Float) (beside exact : Bool) (at n : ℕ) : Type 0 where
  pub within : n ≤ run_cells
  pub each : (i : ℕ) → i < n → Passed m w t beside exact (at + i)

-- the first n cells are at or below t
pub record Below (cells : List Float) (t : Float) (n : ℕ) : Type 0 where
  pub within : n ≤ length cells
  pub below : (i : ℕ) → i < n → le (slice_index_or cells i nan) t ≡ true

-- the places inside the border from p on, in row order: the rest of its row, and then the rows below
unfoldable pub ahead_in : Search → Place → List Place
ahead_in s p =
    let right = s.w - s.border in
    let bottom = s.h - s.border in
    cond (nat_lt p.y bottom) (row p.y p.x right ++ block s.border right (p.y + 1) bottom) []

-- the peaks from p on
abbrev pub peaks_from : List Float → Search → Place → List Place
peaks_from m s p = keep (peak_in m s) (ahead_in s p)

-- from any place of row y on, the next peaks are those of the rows below
pub record LowRow (m : List Float) (s : Search) (y : ℕ) : Type 0 where
  pub same_ahead : (x : ℕ) → s.border ≤ x → y < s.h - s.border
      → peaks_from m s (place x y) ≡ peaks_from m s (place s.border (y + 1))

-- and the same for the rows from `low` to y
abbrev pub LowRows : List Float → Search → ℕ → ℕ → Type 0
LowRows m s low y = (k : ℕ) → low ≤ k → k ≤ y → LowRow m s k

-- from p on, the places before q in its row are not peaks
pub record PlacesSkipped (m : List Float) (s : Search) (p q : Place) : Type 0 where
  pub onward : p.x ≤ q.x
  pub same_ahead : peaks_from m s p ≡ peaks_from m s q

-- the place of what was found
abbrev pub place_of : Spot → Place
place_of f = place f.x f.y

-- what was counted at the peak that was found
pub record Counted (m : List Float) (s : Search) (f : Spot) : Type 0 where
  pub neighbours : f.neighbours ≡ neighbours_at m s (place_of f)
  pub ties : f.ties ≡ ties_at m s (place_of f)

-- the place after p in its row
abbrev pub place_behind : Place → Place
place_behind p = place (p.x + 1) p.y

-- f is the first peak from p on, with what was counted at it
pub record FirstFrom (m : List Float) (s : Search) (p : Place) (f : Spot) : Type 0 where
  pub inside : Inside s.w s.h s.border (place_of f)
  pub counted : Counted m s f
  pub ahead : peaks_from m s p ≡ place_of f ∷ peaks_from m s (place_behind (place_of f))

-- what a search from p on finds: the first peak, or that there is none
abbrev pub NextFound : List Float → Search → Place → Option Spot → Type 0
NextFound m s p None = peaks_from m s p ≡ []
NextFound m s p (Some f) = FirstFrom m s p f

-- ---- a table of the first peaks

-- how many numbers a count has: more than a window has cells
abbrev pub counts : ℕ
counts = 2048

-- the peak that a number encodes; a row has as many places as the largest side
abbrev pub spot_of : ℕ → Spot
spot_of a =
    record {
      x = a / counts / counts % largest_side;
      y = a / counts / counts / largest_side;
      neighbours = a / counts % counts;
      ties = a % counts;
    }

-- and behind the numbers of all peaks, that no peak is left
abbrev pub found_of : ℕ → Option Spot
found_of a = cond (nat_le (largest_side * largest_side * counts * counts) a) None (Some (spot_of a))

-- f has a number of its own
pub record SpotInRange (f : Spot) : Type 0 where
  pub x : f.x < largest_side
  pub y : f.y < largest_side
  pub neighbours : f.neighbours < counts
  pub ties : f.ties < counts

-- where the search for the peak at place i of a table begins: at the first place inside the border, or after the peak
-- before it
abbrev pub start_of : Search → List ℕ → ℕ → Place
start_of s t zero = place s.border s.border
start_of s t (suc i) = place_behind (place_of (spot_of (slice_index t i)))

-- the first n entries of a table are the first n peaks; the last of them may say that no peak is left
pub record PeaksListed (m : List Float) (s : Search) (t : List ℕ) (n : ℕ) : Type 0 where
  pub within : n ≤ length t
  pub each : (i : ℕ) → i < n → NextFound m s (start_of s t i) (found_of (slice_index t i))

-- p is where the search for peak i begins
pub record IsSearchStart (s : Search) (t : List ℕ) (n i : ℕ) (p : Place) : Type 0 where
  pub left : s.border ≤ p.x
  pub top : s.border ≤ p.y
  pub listed : i < n → p ≡ start_of s t i

-- o is what a search from p on finds, as the table has it
pub record NextListed (m : List Float) (s : Search) (t : List ℕ) (n i : ℕ) (p : Place) (o : Option Spot) : Type 0 where
  pub next : NextFound m s p o
  pub listed : i < n → o ≡ found_of (slice_index t i)
