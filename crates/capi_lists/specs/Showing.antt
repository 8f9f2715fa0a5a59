-- What `zakdomp_show_corner` promises, by the promise of `show_corner`.
use Rattle.std.specs.Prelude.{ℕ, ◌≡◌, Float}
use Rattle.lists.specs.Refusals.{judged, result_or}
use Rattle.corner_list.specs.declared.Corner.{Corner}
use Rattle.corner_list.specs.CornerList.{Slices, corner_at}
use Rattle.corner_strike.specs.Editions.{Edition}
use Rattle.corner_strike.specs.Showing.{shown_of, Shows}

-- the fields of a corner, in the order of the arguments
abbrev pub corner : Float → Float → Float → ℕ → Corner
corner x y strength neighbours = record { x = x; y = y; strength = strength; neighbours = neighbours }

-- r is the number of the answer, and the corner and the change number are the answer's too
pub record CornerShown (b : Slices) (e : Edition) (place : ℕ) (c : Corner) (shown r : ℕ) (c' : Corner)
    (shown' : ℕ) : Type 0 where
  pub answer : Shows b e place (judged r (shown_of b e place))
  pub corner_is : c' ≡ result_or r (corner_at b place) c
  pub shown_is : shown' ≡ result_or r e.change shown
