-- The maps of which the centroid accepts every peak: those of an image of bytes that is not too large, by parameters in their ranges.
-- Assumes nothing.
use Prim.Native.Nat.{◌≤◌}
use mathlib.Core.Path.{◌≡◌}
use mathlib.Core.Bool.{true}
use lib.Dec.{T}
use lib.Ieee.{binary32, fits, le}
use Rattle.lists.specs.Limits.{largest_side, largest_radius}
use Rattle.lists.specs.Places.{All}
use Rattle.lists.proofs.Members.{all_map}
use Rattle.float32.specs.Float32.{float_of}
use Rattle.ring.specs.Ring.{ring_of, is_ring}
use Rattle.response.specs.Patch.{View, cells}
use Rattle.accuracy.specs.Accurate.{Bytes}
use Rattle.accuracy.proofs.Cells.{map-small}
use Rattle.center_of_mass.proofs.Weights.{Usual}
use Rattle.frame_params.specs.declared.FrameParams.{FrameParams}

-- a map by the parameters' ring
pub record Fine (p : FrameParams) (v : View) : Type 0 where
  pub ring_is : is_ring p.ring ≡ true
  pub in_window : p.window ≤ largest_radius
  pub in-radius : p.centroid_radius ≤ largest_radius
  pub bytes : Bytes v.img
  pub ring : v.ring ≡ ring_of p.ring
  pub narrow : v.w ≤ largest_side
  pub low : v.h ≤ largest_side

-- the cells of a map of an image of bytes are as the centroid takes them
pub map-usual : (v : View) → Bytes v.img → All Usual (cells v)
map-usual v bytes =
    all_map (λ x. T (fits binary32 x) × T (le x (float_of 8192))) Usual (λ x k. record { held = k.0; small = k.1 }) (cells v)
    (map-small v bytes)
