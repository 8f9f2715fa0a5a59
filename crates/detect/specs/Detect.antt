-- Peak finding (RULES 4): the corners that a map's peaks start as, the refusals, and what is promised about the answer
-- and the buffer.
use Rattle.std.specs.Prelude.{◌≡◌, ℕ, ◌+◌, Bool, false, cond, List, [], ◌∷◌, ◌++◌, map, length, nat_lt, Float, Option}
use Rattle.std.specs.Prelude.{Result}
use Rattle.lists.specs.Places.{Place, sum_of}
use Rattle.lists.specs.declared.refusal.Refusal.{Refusal}
use Rattle.lists.specs.Refusals.{lowest, number_of, values_by, values_unless, is_large, is_misfit, judged, result_or}
use Rattle.float32.specs.Float32.{lift, float_of}
use Rattle.frame_params.specs.Ranges.{range_outside}
use Rattle.corner_list.specs.CornerList.{Slices, places_of, placed_corners}
use Rattle.corner_list.specs.declared.Corner.{Corner}
use Rattle.detect.specs.declared.Search.{Search}
use Rattle.detect.specs.declared.Peaks.{Peaks}
use Rattle.detect.specs.Fifths.{between_fifths}
use Rattle.detect.specs.Peaks.{CellTests, is_peak, peak_places, value_at, larger_in, equal_in, positive_in, reading}
use Rattle.detect.specs.Peaks.{window_test, ties_of, positives}

-- ---- RULES 4.1, what a map is searched with: border = ring + window + refine radius; a threshold that is NaN or
-- negative counts as 0. For the choice by exact values the threshold moves to a value that no response has (RULES 34.3)
abbrev pub search_by : Bool → ℕ → ℕ → ℕ → Float → ℕ → ℕ → ℕ → Search
search_by exact w h ring threshold window least radius =
    record {
      w = w;
      h = h;
      border = ring + window + radius;
      window = window;
      threshold = cond exact (between_fifths (lift threshold)) (lift threshold);
      least_neighbours = least;
      exact = exact;
    }

-- by computed values
abbrev pub search_of : ℕ → ℕ → ℕ → Float → ℕ → ℕ → ℕ → Search
search_of = search_by false

-- the peaks of a map by the reading v
abbrev pub peaks_by : CellTests → Search → List Place
peaks_by v s = peak_places v s.w s.h s.border s.window s.least_neighbours

-- the peaks of a list of floats
abbrev pub read_in : List Float → Search → CellTests
read_in m s = reading s.exact m s.w s.threshold

abbrev pub peak_in : List Float → Search → Place → Bool
peak_in m s = is_peak (read_in m s) s.w s.h s.window s.least_neighbours

abbrev pub peaks_in : List Float → Search → List Place
peaks_in m s = peaks_by (read_in m s) s

-- ---- RULES 4.5, the corner that a peak starts as: its column and row, the cell's value as strength, and its positive
-- neighbours (RULES 24)
abbrev pub neighbours_at : List Float → Search → Place → ℕ
neighbours_at m s = positives (positive_in m s.w) s.w s.h s.window

abbrev pub start_at : List Float → Search → Place → Corner
start_at m s p =
    record { x = float_of p.x; y = float_of p.y; strength = value_at m s.w p; neighbours = neighbours_at m s p }

abbrev pub starts_in : List Float → Search → List Corner
starts_in m s = map (start_at m s) (peaks_in m s)

-- ---- RULES 23.2, the ties of a peak, by the window test of its cell, and those of a list of peaks
abbrev pub test_at : List Float → Search → Place → Option ℕ
test_at m s = window_test (larger_in m s.w) (equal_in m s.w) s.w s.h s.window

-- the promise of `window_test` for the cell at p
abbrev pub WindowTested : List Float → Search → Place → Option ℕ → Type 0
WindowTested m s p t = t ≡ test_at m s p

abbrev pub ties_at : List Float → Search → Place → ℕ
ties_at m s p = ties_of (test_at m s p)

abbrev pub ties_in : List Float → Search → ℕ
ties_in m s = sum_of (ties_at m s) (peaks_in m s)

-- ---- refusals

-- RULES 2.4: the conditions on the input, a map of `size` cells and the parameters, with their numbers
unfoldable pub conditions : ℕ → ℕ → ℕ → ℕ → ℕ → ℕ → List (Bool × ℕ)
conditions size w h ring window radius =
    (is_large w h, 1)
    ∷ (is_misfit size w h, 2)
    ∷ (range_outside ring window radius, 3)
    ∷ []

-- RULES 4.6: the refusal's number, 0 for none: those conditions, then 10 if n corners do not fit after the first `held`
-- of a buffer with a given number of places, or if `held` alone exceeds them.
unfoldable pub refusal_of : List (Bool × ℕ) → ℕ → ℕ → ℕ → ℕ
refusal_of conds places held n = lowest (conds ++ ((nat_lt places (held + n), 10) ∷ []))

-- ---- the promise

-- RULES 15.1: the values of an answer
abbrev pub values_of : Result Peaks Refusal → List ℕ
values_of = values_by (λ p. p.count ∷ p.ties ∷ [])

-- What peak finding promises, under the conditions conds on the input, for a map whose peaks start as the corners cs
-- and have `ties` ties, and for a buffer b that holds `held`: the answer (how many peaks were added and how many ties
-- they have) with its number and values, and the buffer after (RULES 2.5): the corners cs after its first `held`, or
-- unchanged
pub record PeaksAdded (conds : List (Bool × ℕ)) (cs : List Corner) (ties held : ℕ) (b : Slices)
    (r : Result Peaks Refusal)
    (b' : Slices) : Type 0 where
  pub answer : r
      ≡ judged (refusal_of conds (places_of b) held (length cs)) (record { count = length cs; ties = ties })
  pub number : number_of r ≡ refusal_of conds (places_of b) held (length cs)
  pub values : values_of r ≡ values_unless (refusal_of conds (places_of b) held (length cs)) (length cs ∷ ties ∷ [])
  pub buffer : b' ≡ result_or (refusal_of conds (places_of b) held (length cs)) (placed_corners held cs b) b
