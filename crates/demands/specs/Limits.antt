-- Request 9, "Pixels known between limits" (RULES 28): what the calls of `response_limits` and `sure_peak` leave and
-- answer, by their promises. What holds for both rings is stated for any ring table.
use Rattle.std.specs.Prelude.{ℕ, ◌+◌, ◌*◌, ◌≡◌, true, List, get_or, take, ℤ, pos, ◌≤ℤ◌, Float, Ok}
use Rattle.float32.specs.Float32.{lift}
use Rattle.float32.specs.Value.{IsWhole}
use Rattle.lists.specs.Places.{Place, any}
use Rattle.ring.specs.Ring.{Ring, ring_of}
use Rattle.response.specs.Exact.{fifths_at}
use Rattle.detect.specs.Peaks.{same, peak_places}
use Rattle.detect.specs.Detect.{search_of}
use Rattle.detect.specs.Exact.{exact_peaks}
use Rattle.response_limits.specs.Limits.{Between, low_at, high_at}
use Rattle.response_limits.specs.Promise.{LimitsWritten}
use Rattle.sure_peak.specs.SurePeak.{by_limits}
use Rattle.sure_peak.specs.Promise.{SurePeakTold}
use Rattle.demands.specs.Retouch.{InImage}

-- a call of `response_limits` that was not refused, with its promise word for word
pub record LimitsCall : Type 0 where
  pub low : List ℕ
  pub high : List ℕ
  pub w : ℕ
  pub h : ℕ
  pub ring : ℕ
  pub lows : List ℤ
  pub highs : List ℤ
  pub lows' : List ℤ
  pub highs' : List ℤ
  pub promise : LimitsWritten low high w h ring lows highs (Ok tt) lows' highs'

-- the two numbers of a cell of its maps, and the paper's exact value for an image with the same sides
abbrev pub low_cell : LimitsCall → Place → ℤ
low_cell c p = get_or c.lows' (p.y * c.w + p.x) (pos 0)

abbrev pub high_cell : LimitsCall → Place → ℤ
high_cell c p = get_or c.highs' (p.y * c.w + p.x) (pos 0)

abbrev pub exact_cell : LimitsCall → List ℕ → Place → ℤ
exact_cell c img p = fifths_at img c.w c.h (ring_of c.ring) p.x p.y

-- "Every image lying between the two has its exact response inside."
pub record LimitsContain : Type 0 where
  pub call : (c : LimitsCall) (img : List ℕ) → Between c.low c.high img → (p : Place) → InImage c.w c.h p
      → (low_cell c p ≤ℤ exact_cell c img p) × (exact_cell c img p ≤ℤ high_cell c p)
  pub any_ring : (t : Ring) (low high img : List ℕ) → Between low high img → (w h x y : ℕ)
      → (low_at low high w h t x y ≤ℤ fifths_at img w h t x y) × (fifths_at img w h t x y ≤ℤ high_at low high w h t x y)

-- "Where low equals high everywhere, both numbers are that response."
pub record LimitsExact : Type 0 where
  pub call : (c : LimitsCall) → c.low ≡ c.high → (p : Place) → InImage c.w c.h p
      → (low_cell c p ≡ exact_cell c c.low p) × (high_cell c p ≡ exact_cell c c.low p)
  pub any_ring : (t : Ring) (img : List ℕ) (w h x y : ℕ)
      → (low_at img img w h t x y ≡ fifths_at img w h t x y) × (high_at img img w h t x y ≡ fifths_at img w h t x y)

-- a call of `sure_peak` that answered yes, on the maps that a call of `response_limits` made and with its ring: the
-- maps are the first w * h places of the buffers
pub record SureCall (c : LimitsCall) : Type 0 where
  pub threshold : ℕ
  pub window : ℕ
  pub least_neighbours : ℕ
  pub centroid : ℕ
  pub place : Place
  pub promise : SurePeakTold (take (c.h * c.w) c.lows') (take (c.h * c.w) c.highs') c.w c.h
      c.ring threshold window least_neighbours centroid place (Ok true)

-- "With maps so made for the ring given it is then a peak by exact values of every such image": it is in the list of
-- peaks that exact values choose, for any u32 threshold; and if that threshold is also a float, in the exact list of a
-- search with that float
pub record SurePeakExact : Type 0 where
  pub by_fifths : (c : LimitsCall) (s : SureCall c) (img : List ℕ) → Between c.low c.high img
      → any (λ q. same q s.place)
      (peak_places (by_limits (exact_cell c img) (exact_cell c img) s.threshold) c.w c.h
      (c.ring + s.window + s.centroid)
      s.window s.least_neighbours)
      ≡ true
  pub by_search : (c : LimitsCall) (s : SureCall c) (img : List ℕ) → Between c.low c.high img
      → (t : Float) → IsWhole (lift t) s.threshold
      → any (λ q. same q s.place)
      (exact_peaks (exact_cell c img) (search_of c.w c.h c.ring t s.window s.least_neighbours
      s.centroid))
      ≡ true
