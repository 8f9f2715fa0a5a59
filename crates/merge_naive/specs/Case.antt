-- The case that tells the two merges apart (RULES 31.5): (1 - 2^-24, 0), (2, 0) and (0, 100) with radius 1, each of
-- strength 1 and without neighbours. The first two are exactly the radius apart in f32; their cell numbers are 0 and 2.
use Rattle.std.specs.Prelude.{false, List, [], ◌∷◌, pos, negsuc, Float}
use Rattle.std.specs.Float.{fin}
use Rattle.float32.specs.Float32.{zero}
use Rattle.corner_list.specs.declared.Corner.{Corner}

abbrev pub one : Float
one = fin false 1 (pos 0)

abbrev pub corner : Float → Float → Corner
corner x y = record { x = x; y = y; strength = one; neighbours = 0 }

abbrev pub first : Corner
first = corner (fin false 16777215 (negsuc 23)) zero

abbrev pub second : Corner
second = corner (fin false 1 (pos 1)) zero

abbrev pub third : Corner
third = corner zero (fin false 25 (pos 2))

-- by cells all three stay, by distance alone two
abbrev pub three : List Corner
three = first ∷ second ∷ third ∷ []

abbrev pub two : List Corner
two = first ∷ third ∷ []
