-- RULES 28: what the exact response of a cell can be, in fifths, if each pixel is known between a low and a high value.
use Rattle.std.specs.Prelude.{ℕ, ◌+◌, ◌*◌, ◌-◌, ◌<◌, ◌≤◌, max, ◌≡◌, cond, List, length, get_or, ℤ, pos}
use Rattle.std.proofs.Math.IntN.{sub_ℕ}
use Rattle.float32.specs.Value.{total}
use Rattle.lists.specs.Tab.{grid}
use Rattle.ring.specs.Ring.{Ring}
use Rattle.response.specs.Response.{samples, cross_of, inside}

-- RULES 28.1: an image that lies between two others, pixel by pixel
pub record Between (low high img : List ℕ) : Type 0 where
  pub as_long : length img ≡ length low
  pub as_high : length img ≡ length high
  pub at_least : (i : ℕ) → i < length img → get_or low i 0 ≤ get_or img i 0
  pub at_most : (i : ℕ) → i < length img → get_or img i 0 ≤ get_or high i 0

-- a whole number that is known to lie from `low` up to `high`, both included
pub record Range : Type 0 where
  pub low : ℕ
  pub high : ℕ

-- the sum of two such numbers, and a multiple of one
abbrev pub plus : Range → Range → Range
plus a b = record { low = a.low + b.low; high = a.high + b.high }

abbrev pub times : ℕ → Range → Range
times k a = record { low = k * a.low; high = k * a.high }

-- RULES 28.2: the least that |A - B| can be, 0 if A - B can have either sign; and the greatest
abbrev pub least_dist : Range → Range → ℕ
least_dist a b = max (a.low - b.high) (b.low - a.high)

abbrev pub greatest_dist : Range → Range → ℕ
greatest_dist a b = max (a.high - b.low) (b.high - a.low)

-- ---- RULES 28.3, for the ranges s of sixteen samples and the range c of the sum of the cross
module _ (s : ℕ → Range) where
  -- SR, each of its four terms at its least; and at its greatest
  abbrev pub sr_least : ℕ
  sr_least = total (λ k. least_dist (plus (s k) (s (k + 8))) (plus (s (k + 4)) (s (k + 12)))) 4

  abbrev pub sr_greatest : ℕ
  sr_greatest = total (λ k. greatest_dist (plus (s k) (s (k + 8))) (plus (s (k + 4)) (s (k + 12)))) 4

  -- DR, each of its eight terms likewise
  abbrev pub dr_least : ℕ
  dr_least = total (λ k. least_dist (s k) (s (k + 8))) 8

  abbrev pub dr_greatest : ℕ
  dr_greatest = total (λ k. greatest_dist (s k) (s (k + 8))) 8

  -- the sum of all sixteen
  abbrev pub ring_range : Range
  ring_range = record { low = total (λ k. (s k).low) 16; high = total (λ k. (s k).high) 16 }

  -- the low number: SR at its least, and DR and |5 ring sum - 16 cross sum| at their greatest; and the high number, the
  -- other way round
  abbrev pub low_fifths : Range → ℤ
  low_fifths c = sub_ℕ (5 * sr_least) (5 * dr_greatest + greatest_dist (times 5 ring_range) (times 16 c))

  abbrev pub high_fifths : Range → ℤ
  high_fifths c = sub_ℕ (5 * sr_greatest) (5 * dr_least + least_dist (times 5 ring_range) (times 16 c))

-- ---- RULES 28.4, for a cell of two images of w by h, the low and the high one: 0 within a ring radius of the edge

-- the ranges of its samples, and that of its cross
abbrev pub range_at : List ℕ → List ℕ → ℕ → Range
range_at low high k = record { low = get_or low k 0; high = get_or high k 0 }

abbrev pub sample_ranges : List ℕ → List ℕ → ℕ → Ring → ℕ → ℕ → ℕ → Range
sample_ranges low high w t x y = range_at (samples low w t x y) (samples high w t x y)

abbrev pub cross_range : List ℕ → List ℕ → ℕ → ℕ → ℕ → Range
cross_range low high w x y = record { low = cross_of low w x y; high = cross_of high w x y }

unfoldable pub low_at : List ℕ → List ℕ → ℕ → ℕ → Ring → ℕ → ℕ → ℤ
low_at low high w h t x y =
    cond (inside w h t x y) (low_fifths (sample_ranges low high w t x y) (cross_range low high w x y)) (pos 0)

unfoldable pub high_at : List ℕ → List ℕ → ℕ → ℕ → Ring → ℕ → ℕ → ℤ
high_at low high w h t x y =
    cond (inside w h t x y) (high_fifths (sample_ranges low high w t x y) (cross_range low high w x y)) (pos 0)

-- and the two maps, in row order
abbrev pub low_map : List ℕ → List ℕ → ℕ → ℕ → Ring → List ℤ
low_map low high w h t = grid w h (low_at low high w h t)

abbrev pub high_map : List ℕ → List ℕ → ℕ → ℕ → Ring → List ℤ
high_map low high w h t = grid w h (high_at low high w h t)
