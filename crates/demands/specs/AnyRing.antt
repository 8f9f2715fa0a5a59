-- What is stated beside the calls for any ring table (RULES 3.1): "Facts common to both rings are shown for any ring
-- table of sixteen different places, none in the cross and none beyond its radius either way."
use Rattle.std.specs.Prelude.{ℕ, ◌+◌, ◌*◌, ◌<◌, ◌≡◌, true, List, get_or, ℤ, Float}
use Rattle.std.specs.Float.{nan}
use Rattle.lists.specs.Places.{Place}
use Rattle.ring.specs.Ring.{ring_of, is_ring, IsRing}
use Rattle.response.specs.Patch.{View, map_width, map_height, cells}
use Rattle.response.specs.Exact.{fifths_in}
use Rattle.accuracy.specs.Accurate.{Bytes}

-- the program's rings are such tables, whichever a radius selects, and have the radius that a parameter set gives
pub record OwnRings : Type 0 where
  pub are_rings : (n : ℕ) → IsRing (ring_of n)
  pub radius_said : (n : ℕ) → is_ring n ≡ true → (ring_of n).radius ≡ n

-- a box of an image of bytes with any ring table: its map is that of the definitions (3.4, 3.7), which a call leaves
-- for the rings that it accepts
pub record AnyMap : Type 0 where
  pub view : View
  pub bytes : Bytes view.img
  pub is-ring : IsRing view.ring

abbrev pub map_in : AnyMap → List Float
map_in a = cells a.view

-- a cell of it by column and row, its response, and its exact value
abbrev pub HasCell : AnyMap → Place → Type 0
HasCell a p = (p.x < map_width a.view) × (p.y < map_height a.view)

abbrev pub computed_in : AnyMap → Place → Float
computed_in a p = get_or (map_in a) (p.y * map_width a.view + p.x) nan

abbrev pub exact_in : AnyMap → Place → ℤ
exact_in a p = fifths_in a.view p.x p.y
