-- What `zakdomp_response` promises, by the promise of `chess_response_u8_patch`.
use Rattle.std.specs.Prelude.{ℕ, ◌≡◌, List, Float}
use Rattle.response.specs.Patch.{View, map_width, map_height, Patched}
use Rattle.lists.specs.Refusals.{judged, result_or}

-- r is the number of the answer, and the map and its sides are the answer's too
pub record Responded (v : View) (radius : ℕ) (map : List Float) (width height r : ℕ) (map' : List Float)
    (width' height' : ℕ) : Type 0 where
  pub answer : Patched v radius map (judged r (record { w = map_width v; h = map_height v })) map'
  pub width_is : width' ≡ result_or r (map_width v) width
  pub height_is : height' ≡ result_or r (map_height v) height
