-- The refusals of merging corners.
use Rattle.std.specs.Prelude.{ℕ, min, Bool, not, ◌&&◌, [], ◌∷◌, List, ltb, Float}
use Rattle.lists.specs.Places.{any}
use Rattle.lists.specs.Refusals.{lowest}
use Rattle.corner_list.specs.declared.Corner.{Corner}
use Rattle.corner_list.specs.CornerList.{is_inside, corners_of, Slices}
use Rattle.merge_radius.specs.MergeRadius.{is_off, radius_outside}

-- a corner with a coordinate that is not finite or outside 0..largest
abbrev pub corner_outside : Corner → Bool
corner_outside c = not (is_inside c)

-- The conditions for merging the corners cs, with their numbers (RULES 2.2); `lacks` says that a buffer has fewer
-- places than the stated count:
-- 4: such a corner
-- 5: the radius is outside its range
-- 10: a buffer lacks places
-- With an off radius only 10 is checked.
abbrev pub conditions : Float → List Corner → Bool → List (Bool × ℕ)
conditions radius cs lacks =
    (not (is_off radius) && any corner_outside cs, 4) ∷ (radius_outside radius, 5) ∷ (lacks, 10) ∷ []

-- the number, 0 for none, for merging the first `count` corners of a buffer with a given number of places: 4 is checked
-- for those that it has
unfoldable pub refusal_of : Float → ℕ → ℕ → Slices → ℕ
refusal_of radius places count b = lowest (conditions radius (corners_of b (min count places)) (ltb places count))
