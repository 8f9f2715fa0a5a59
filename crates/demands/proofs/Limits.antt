-- From the laws of response_limits and sure_peak: a call that wrote the maps was not refused, and the maps by column and row. Assumes
-- nothing.
use Prim.Native.Nat.{ℕ, ◌+◌, ◌*◌, ◌<◌}
use native.Mathlib.Nat.{mul_comm}
use mathlib.Core.Path.{◌≡◌, refl, sym, ap, ◌∙◌}
use mathlib.Core.Bool.{Bool, true, false, cond}
use mathlib.Core.List.{List, [], ◌∷◌}
use native.Mathlib.Omega.{arith}
use lib.ListN.{length, get_or, take, get_or-append}
use lib.Seq.{get_or-take}
use lib.IntN.{ℤ, pos}
use lib.Signed.{◌≤ℤ◌, lt_z}
use lib.Ieee.{Float}
use Rattle.float32.specs.Float32.{lift}
use Rattle.float32.specs.Value.{IsWhole}
use Rattle.lists.specs.Places.{Place}
use Rattle.lists.specs.Tab.{grid}
use Rattle.lists.specs.Buffer.{front}
use Rattle.lists.proofs.Tests.{to-T, and_parts}
use Rattle.lists.proofs.Tab.{get_d-grid, length-grid}
use Rattle.lists.proofs.Places.{in_map}
use Rattle.ring.specs.Ring.{ring_of}
use Rattle.detect.specs.Peaks.{is_peak}
use Rattle.detect.specs.Internal.{Inside}
use Rattle.detect.specs.Exact.{exact}
use Rattle.agreement.proofs.Threshold.{above-whole-fifths}
use Rattle.response_limits.specs.Limits.{Between, low_at, high_at, low_map, high_map}
use Rattle.response_limits.specs.Promise.{refusal_of}
use Rattle.response_limits.proofs.Contained as contained
use Rattle.sure_peak.specs.SurePeak.{by_limits, is_sure}
use Rattle.sure_peak.proofs.Exact.{Within, listed, sure-inside, sure-peak}
use Rattle.demands.specs.Limits.{LimitsCall, SureCall, low_cell, high_cell, exact_cell, LimitsContain, LimitsExact}
use Rattle.demands.specs.Retouch.{InImage}
use Rattle.demands.specs.Limits.{SurePeakExact}

-- ---- the promise taken apart
at_front : (w h : ℕ) (f : ℕ → ℕ → ℤ) (d : List ℤ) (p : Place) → p.x < w → p.y < h
    → get_or (front (grid w h f) d) (p.y * w + p.x) (pos 0) ≡ f p.x p.y
at_front w h f d p i j =
    get_or-append (grid w h f) _ (pos 0) (p.y * w + p.x) (rw (length-grid w h f, mul_comm h w) (in_map w h p.x p.y i j))
    ∙ get_d-grid w h f p.x p.y (pos 0) i j

module _ (c : LimitsCall) where
  none : refusal_of c.low c.high c.w c.h c.ring (length c.lows) (length c.highs) ≡ 0
  none = sym c.promise.number

  lows_are : c.lows' ≡ front (low_map c.low c.high c.w c.h (ring_of c.ring)) c.lows
  lows_are = c.promise.lows_are ∙ rw none

  highs_are : c.highs' ≡ front (high_map c.low c.high c.w c.h (ring_of c.ring)) c.highs
  highs_are = c.promise.highs_are ∙ rw none

  low-is : (p : Place) → InImage c.w c.h p → low_cell c p ≡ low_at c.low c.high c.w c.h (ring_of c.ring) p.x p.y
  low-is p at = ap (λ (m : List ℤ). get_or m (p.y * c.w + p.x) (pos 0)) lows_are ∙ at_front c.w c.h _ c.lows p at.0 at.1

  high_is : (p : Place) → InImage c.w c.h p → high_cell c p ≡ high_at c.low c.high c.w c.h (ring_of c.ring) p.x p.y
  high_is p at = ap (λ (m : List ℤ). get_or m (p.y * c.w + p.x) (pos 0)) highs_are ∙ at_front c.w c.h _ c.highs p at.0 at.1

  module _ (img : List ℕ) (b : Between c.low c.high img) where
    inside-low : (p : Place) → InImage c.w c.h p → low_cell c p ≤ℤ exact_cell c img p
    inside-low p at = rw (low-is p at) (contained.at_least c.low c.high img b c.w c.h (ring_of c.ring) p.x p.y)

    inside-high : (p : Place) → InImage c.w c.h p → exact_cell c img p ≤ℤ high_cell c p
    inside-high p at = rw (high_is p at) (contained.at_most c.low c.high img b c.w c.h (ring_of c.ring) p.x p.y)

-- ---- the statements on the maps
pub limits_contain : LimitsContain
limits_contain = record {
  call = λ c img b p at. (inside-low c img b p at, inside-high c img b p at);
  any_ring = λ t low high img b w h x y. (contained.at_least low high img b w h t x y, contained.at_most low high img b w h t x y);
}

pub limits_exact : LimitsExact
limits_exact = record {
  call = λ c e p at. (
    low-is c p at ∙ rw (← e) (contained.low-exact c.low c.w c.h (ring_of c.ring) p.x p.y),
    high_is c p at ∙ rw (← e) (contained.high-exact c.low c.w c.h (ring_of c.ring) p.x p.y),
  );
  any_ring = λ t img w h x y. (contained.low-exact img w h t x y, contained.high-exact img w h t x y);
}

-- ---- a sure peak
module _ (c : LimitsCall) (s : SureCall c) where
  abbrev low : List ℤ
  low = take (c.h * c.w) c.lows'

  abbrev high : List ℤ
  high = take (c.h * c.w) c.highs'

  -- a yes is no refusal, and says that the place is sure
  is-yes : is_sure low high c.w c.h c.ring s.threshold s.window s.least_neighbours s.centroid s.place ≡ true
  is-yes = go _ (rw (← s.promise.number) at s.promise.values)
    where
      go : (b : Bool) → ◌≡◌ {A = List ℕ} (1 ∷ []) (cond b 1 0 ∷ []) → b ≡ true
      go true e = refl
      go false e = absurd (let z : ◌≡◌ {A = ℕ} 1 0 = cc in omega arith)

  module _ (img : List ℕ) (b : Between c.low c.high img) where
    in-front : (q : Place) → q.x < c.w → q.y < c.h → q.y * c.w + q.x < c.h * c.w
    in-front q i j = rw (mul_comm c.h c.w) (in_map c.w c.h q.x q.y i j)

    within : Within low high c.w c.h (exact_cell c img)
    within = record {
      least = λ q i j. rw (get_or-take (c.h * c.w) c.lows' (q.y * c.w + q.x) (pos 0) (in-front q i j)) (inside-low c img b q (i, j));
      most = λ q i j. rw (get_or-take (c.h * c.w) c.highs' (q.y * c.w + q.x) (pos 0) (in-front q i j)) (inside-high c img b q (i, j));
    }

    border : Inside c.w c.h (c.ring + s.window + s.centroid) s.place
    border = sure-inside low high _ _ _ _ _ _ _ _ is-yes

    peak : is_peak (by_limits (exact_cell c img) (exact_cell c img) s.threshold) c.w c.h s.window s.least_neighbours
        s.place ≡ true
    peak = sure-peak low high _ _ _ _ _ _ _ _ is-yes (exact_cell c img) within

-- the threshold as a float
by-float : (f : Place → ℤ) (t : Float) (k w h r least : ℕ) (p : Place) → IsWhole t k → is_peak (by_limits f f k) w h r least p ≡ true
    → is_peak (exact f t) w h r least p ≡ true
unfolding is_peak
by-float f t k w h r least p whole e =
    let a = and_parts (lt_z (pos (5 * k)) (f p)) _ e in
    rw ((above-whole-fifths t k (f p) whole).1 (record { lt = to-T a.0 })) a.1

pub sure_peak_exact : SurePeakExact
sure_peak_exact = record {
  by_fifths = λ c s img b. listed _ c.w c.h (c.ring + s.window + s.centroid) s.window s.least_neighbours s.place
      (border c s img b) (peak c s img b);
  by_search =
      λ c s img b t whole. listed (exact (exact_cell c img) (lift t)) c.w c.h (c.ring + s.window + s.centroid) s.window
      s.least_neighbours s.place (border c s img b)
      (by-float (exact_cell c img) (lift t) s.threshold c.w c.h s.window s.least_neighbours s.place whole
      (peak c s img b));
}
