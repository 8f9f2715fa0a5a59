-- The merge radius: when it is off, and when merging accepts its size.
use Rattle.std.specs.Prelude.{Bool, false, not, ◌&&◌, ◌||◌, pos, negsuc, Float}
use Rattle.std.specs.Float.{fin}
use Rattle.std.specs.Float.Ieee.{le}
use Rattle.std.specs.Float.Ieee.Scale.{finite}
use Rattle.float32.specs.Float32.{zero, between}

-- off: not finite, or at most 0 (RULES 8.1)
unfoldable pub is_off : Float → Bool
is_off radius = not (finite radius) || le radius zero

-- 5: the least radius, 1/64, and the largest, 4,096 (RULES 1.7)
abbrev pub least_merge_radius : Float
least_merge_radius = fin false 1 (negsuc 5)

abbrev pub largest_merge_radius : Float
largest_merge_radius = fin false 1 (pos 12)

-- from the least to the largest
unfoldable pub is_sized : Float → Bool
is_sized radius = between least_merge_radius largest_merge_radius radius

-- 5: the radius is finite, above 0 and outside its range (RULES 2.2)
abbrev pub radius_outside : Float → Bool
radius_outside radius = not (is_off radius) && not (is_sized radius)
