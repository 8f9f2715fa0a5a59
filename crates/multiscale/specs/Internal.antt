-- What the private functions require of a context.
use Rattle.std.specs.Prelude.{◌≤◌, ◌≡◌, true}
use Rattle.lists.specs.Limits.{largest_side, largest_radius, largest_search, last_level}
use Rattle.ring.specs.Ring.{is_ring}
use Rattle.multiscale.specs.declared.RoiContext.{RoiContext}

-- a context with which no seed with coordinates from 0 to the largest is refused
pub record SoundContext (c : RoiContext) : Type 0 where
  pub width : c.width ≤ largest_side
  pub height : c.height ≤ largest_side
  pub ring : is_ring c.ring ≡ true
  pub window : c.window ≤ largest_radius
  pub centroid_radius : c.centroid_radius ≤ largest_radius
  pub search_radius : c.search_radius ≤ largest_search
  pub level : c.level ≤ last_level
