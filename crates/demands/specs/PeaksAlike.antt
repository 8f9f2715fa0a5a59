-- Demand 3 (RULES 10.5): "Whatever the image, box, parameters and .. not refused, as long as the threshold is a whole
-- number once negatives and NaN are lifted to 0: the program's peak list of the response map and the list chosen by
-- exact values are alike, naming the same places in the same order, exactly when no peak of the exact list has in its
-- window an equal exact value with a larger computed one."
use Rattle.std.specs.Prelude.{ℕ, ◌+◌, ◌≡◌, ◌↔◌, List, map, ℤ, Float}
use Rattle.lists.specs.Tab.{tab}
use Rattle.lists.specs.Places.{Place}
use Rattle.float32.specs.Float32.{lift, float_of}
use Rattle.float32.specs.Value.{IsWhole}
use Rattle.response.specs.Patch.{map_width, map_height}
use Rattle.corner_list.specs.CornerList.{corner_at}
use Rattle.corner_list.specs.declared.Corner.{Corner}
use Rattle.detect.specs.Exact.{exact_peaks}
use Rattle.agreement.specs.Agreement.{NoTie}
use Rattle.demands.specs.ResponseCall.{ResponseCall, map_of, exact_at}
use Rattle.demands.specs.AnyRing.{AnyMap, map_in, exact_in}
use Rattle.demands.specs.PeakCall.{PeakCall, search_in}

-- the program's list for a map (RULES 10.4) is what peak finding adds to its buffer: the corners after those that the
-- buffer held
abbrev pub program_list : {m : List Float} {w h : ℕ} → PeakCall m w h → List Corner
program_list p = tab p.added (λ i. corner_at p.after (p.held + i))

-- "the list chosen by exact values": by those of the map's cells, as p searched it
abbrev pub exact_list : {m : List Float} {w h : ℕ} → (Place → ℤ) → PeakCall m w h → List Place
exact_list exact p = exact_peaks exact (search_in p)

-- a corner names the place whose column and row, as floats, are its coordinates
abbrev pub position : Corner → Float × Float
position k = (k.x, k.y)

abbrev pub name_of : Place → Float × Float
name_of q = (float_of q.x, float_of q.y)

-- for a map m with these exact values and a search of it: alike "exactly when no peak of the exact list has .." such an
-- equal
abbrev pub AlikeUnlessTied : {m : List Float} {w h : ℕ} → (Place → ℤ) → PeakCall m w h → Type 0
AlikeUnlessTied {m} {w} {h} exact p =
    (map position (program_list p) ≡ map name_of (exact_list exact p)) ↔ NoTie m exact w h p.window (exact_list exact p)

-- at a threshold that is the whole number k once it is lifted
pub record PeaksAlike : Type 0 where
  -- for a search of the map that a call of the response left
  pub call : (c : ResponseCall) (p : PeakCall (map_of c) c.pw c.ph) (k : ℕ)
      → IsWhole (lift p.threshold) k → AlikeUnlessTied (exact_at c) p
  -- and for a map with any ring table, which peak finding treats like any other
  pub any_ring : (a : AnyMap) (p : PeakCall (map_in a) (map_width a.view) (map_height a.view)) (k : ℕ)
      → IsWhole (lift p.threshold) k
      → AlikeUnlessTied (exact_in a) p
