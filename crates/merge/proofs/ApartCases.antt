-- The worked cases of merging apart (RULES 25.4), by computation. Assumes nothing.
use mathlib.Core.Path.{◌≡◌, refl}
use mathlib.Core.Bool.{true, false}
use mathlib.Core.List.{[], ◌∷◌}
use lib.IntN.{pos}
use lib.Ieee.{Float, nan, fin, lt, le, add, sub, mul, div, to_unsigned}
use Rattle.lists.specs.Tab.{tab}
use Rattle.corner_list.specs.CornerList.{Slices, slices, is_inside, places_of, corners_of, front_corners}
use Rattle.merge_radius.specs.MergeRadius.{is_off, is_sized}
use Rattle.merge_grid.specs.Grid.{grid_of, near, adjacent_cells}
use Rattle.merge.specs.Merge.{result_of}
use Rattle.merge.specs.Apart.{refusal_apart}

abbrev one : Float
one = fin false 1 (pos 0)

abbrev two : Float
two = fin false 1 (pos 1)

abbrev three : Float
three = fin false 3 (pos 0)

abbrev four : Float
four = fin false 1 (pos 2)

abbrev seven : Float
seven = fin false 7 (pos 0)

-- ---- (1, 1; 3) and (2, 1; 4), with 5 and 6 neighbours, and radius 3
abbrev pair : Slices
pair = slices (one ∷ two ∷ []) (one ∷ one ∷ []) (three ∷ four ∷ []) (5 ∷ 6 ∷ [])

-- into a buffer of three places filled with 7: the second is left, and the other two places stay
abbrev sevens : Slices
sevens = slices (seven ∷ seven ∷ seven ∷ []) (seven ∷ seven ∷ seven ∷ []) (seven ∷ seven ∷ seven ∷ []) (7 ∷ 7 ∷ 7 ∷ [])

pub pair-taken : refusal_apart three (places_of sevens) 2 pair ≡ 0
unfolding refusal_apart tab is_inside is_off is_sized lt le
pair-taken = refl

pub one_left : front_corners (result_of three (corners_of pair 2)) sevens
    ≡ slices (two ∷ seven ∷ seven ∷ []) (one ∷ seven ∷ seven ∷ []) (four ∷ seven ∷ seven ∷ []) (6 ∷ 7 ∷ 7 ∷ [])
unfolding result_of tab is_off grid_of near adjacent_cells lt le add sub mul div to_unsigned
one_left = refl

-- into a buffer of one place, though one is left
pub pair-crowded : refusal_apart three 1 2 pair ≡ 10
unfolding refusal_apart tab is_inside is_off is_sized lt le
pair-crowded = refl

-- ---- (1, 1) and (-1, 1), into a buffer of one place: the coordinate is judged first, and with an off radius not at all
abbrev outside : Slices
outside = slices (one ∷ fin true 1 (pos 0) ∷ []) (one ∷ one ∷ []) (three ∷ four ∷ []) (0 ∷ 0 ∷ [])

pub outside-first : refusal_apart three 1 2 outside ≡ 4
unfolding refusal_apart tab is_inside is_off is_sized lt le
outside-first = refl

pub off-crowded : refusal_apart nan 1 2 outside ≡ 10
unfolding refusal_apart tab is_inside is_off is_sized lt le
off-crowded = refl

pub off-taken : refusal_apart nan 2 2 outside ≡ 0
unfolding refusal_apart tab is_inside is_off is_sized lt le
off-taken = refl

pub off-copied : result_of nan (corners_of outside 2) ≡ corners_of outside 2
unfolding result_of is_off
off-copied = refl
