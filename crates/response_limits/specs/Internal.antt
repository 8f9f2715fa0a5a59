-- What the private functions require of their arguments and return: no public promise depends on it.
use Rattle.std.specs.Prelude.{ℕ, ◌+◌, ◌-◌, ◌*◌, ◌≤◌, ◌≡◌, List, length, take, drop, ℤ, pos}
use Rattle.lists.specs.Tab.{tab}
use Rattle.lists.specs.Internal.{Sized}
use Rattle.ring.specs.Ring.{ring_of}
use Rattle.ring.specs.Offsets.{offsets_of}
use Rattle.ring.specs.declared.RingOffsets.{RingOffsets}
use Rattle.response.specs.Response.{samples, cross_of}
use Rattle.response_limits.specs.Limits.{range_at, sr_least, dr_least, ring_range, least_dist, times, low_at, high_at}
use Rattle.response_limits.specs.declared.cell.CellSamples.{CellSamples}
use Rattle.response_limits.specs.declared.cell.CellLimits.{CellLimits}

-- an image, and the table of the ring of that radius
pub record ImageWithTable (img : List ℕ) (w h radius : ℕ) (t : RingOffsets) : Type 0 where
  pub image : Sized (length img) w h
  pub table : t ≡ offsets_of (ring_of radius)
  pub own_radius : (ring_of radius).radius ≡ radius

-- the samples of a cell and the sum of its cross
pub record SamplesOf (img : List ℕ) (w radius x y : ℕ) (r : CellSamples) : Type 0 where
  pub ring_is : r.ring ≡ samples img w (ring_of radius) x y
  pub cross_is : r.cross ≡ cross_of img w x y
  pub cross_small : r.cross ≤ 1275

-- ---- the two naturals of a limit, for samples p and crosses c of one image and q and d of the other. With the images
-- swapped, what was least is greatest
abbrev pub gain_of : List ℕ → List ℕ → ℕ
gain_of p q = 5 * sr_least (range_at p q)

abbrev pub cost_of : List ℕ → List ℕ → ℕ → ℕ → ℕ
cost_of p q c d =
    5 * dr_least (range_at p q) + least_dist (times 5 (ring_range (range_at p q)))
    (times 16 (record { low = c; high = d }))

-- the limits' naturals, from a cell's samples in the low and in the high image
abbrev pub limits_of : CellSamples → CellSamples → CellLimits
limits_of low high =
    record {
      low_gain = gain_of low.ring high.ring;
      low_cost = cost_of high.ring low.ring high.cross low.cross;
      high_gain = gain_of high.ring low.ring;
      high_cost = cost_of low.ring high.ring low.cross high.cross;
    }

-- n places, of which those before `from` and those from `to` on are 0
pub record EdgesCleared (from to n : ℕ) (s : List ℤ) : Type 0 where
  pub long : length s ≡ n
  pub before : take from s ≡ tab from (λ _. pos 0)
  pub behind : drop to s ≡ tab (n - to) (λ _. pos 0)

-- the limits of the cells of row y from column x on, in two buffers that they fill
pub record CellsWritten (low high : List ℕ) (w h radius x y : ℕ) (lows highs lows' highs' : List ℤ) : Type 0 where
  pub lows_are : lows' ≡ tab (length lows) (λ i. low_at low high w h (ring_of radius) (x + i) y)
  pub highs_are : highs' ≡ tab (length highs) (λ i. high_at low high w h (ring_of radius) (x + i) y)
