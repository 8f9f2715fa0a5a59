-- The corners of one map of a frame, for a choice of its peaks (RULES 9.2): the program's choice (4) and the exact one
-- (10.1) are two of them.
use Rattle.std.specs.Prelude.{ℕ, ◌≡◌, Bool, true, false, ◌⊎◌, List, [], ◌∷◌, map, Float}
use Rattle.std.specs.Float.{binary32}
use Rattle.std.specs.Float.Ieee.{add}
use Rattle.lists.specs.Places.{Place, flat_map, sum_of}
use Rattle.float32.specs.Float32.{float_of}
use Rattle.response.specs.Patch.{View, map_width, map_height, cells}
use Rattle.response.specs.Exact.{fifths_in}
use Rattle.corner_list.specs.declared.Corner.{Corner}
use Rattle.detect.specs.declared.Search.{Search}
use Rattle.detect.specs.Detect.{search_by, peaks_in, start_at, ties_at}
use Rattle.detect.specs.Exact.{exact_peaks}
use Rattle.center_of_mass.specs.declared.Outcome.{Outcome}
use Rattle.center_of_mass.specs.declared.Outcome.TheVariants.{Accepted, Rejected, OutOfBounds, IllConditioned, Refused}
use Rattle.center_of_mass.specs.CenterOfMass.{refined}
use Rattle.frame_params.specs.declared.FrameParams.{FrameParams}

-- the places of a map that are its peaks, in row order
abbrev pub Choice : Type 0
Choice = View → List Place

-- a corner at another place: its strength and its neighbours stay
abbrev pub at_place : Float → Float → Corner → Corner
at_place x y c = record { x = x; y = y; strength = c.strength; neighbours = c.neighbours }

-- a corner, given the outcome around it, as in the Rust: an accepted one moves to its centre of mass, any other is
-- dropped
abbrev pub centre_or_none : Outcome → Corner → List Corner
centre_or_none (Accepted x y mass) c = at_place x y c ∷ []
centre_or_none (Rejected x y) c = []
centre_or_none (OutOfBounds x y) c = []
centre_or_none (IllConditioned x y) c = []
centre_or_none (Refused e) c = []

-- a corner moved by a box's corner (RULES 9.3)
abbrev pub moved : ℕ → ℕ → Corner → Corner
moved x0 y0 c = at_place (add binary32 c.x (float_of x0)) (add binary32 c.y (float_of y0)) c

-- what a map of w by h is searched with (RULES 4.1), by computed or by exact values as the flag says (RULES 34.1)
abbrev pub search_with : FrameParams → Bool → ℕ → ℕ → Search
search_with p exact w h =
    search_by exact w h p.ring p.threshold p.window p.least_neighbours p.centroid_radius

-- ---- one map, with the parameters p
module _ (p : FrameParams) where
  -- what it is searched with, by computed values
  abbrev pub search_on : View → Search
  search_on v = search_with p false (map_width v) (map_height v)

  -- the choice by computed values: what peak finding adds to its buffer (RULES 4.3)
  abbrev pub computed_choice : Choice
  computed_choice v = peaks_in (cells v) (search_on v)

  -- and by exact values: "each map's peaks are its exact list" (RULES 10.1)
  abbrev pub exact_choice : Choice
  exact_choice v = exact_peaks (λ q. fifths_in v q.x q.y) (search_on v)

  -- by computed or by exact values, as a flag says (RULES 34.1)
  abbrev pub choice_of : Bool → Choice
  choice_of false = computed_choice
  choice_of true = exact_choice

  -- one of the two
  abbrev pub IsChoice : Choice → Type 0
  IsChoice choose = (choose ≡ computed_choice) ⊎ (choose ≡ exact_choice)

  -- the ties of a map's peaks (RULES 23.3), counted in its computed values whatever the choice
  abbrev pub ties_on : Choice → View → ℕ
  ties_on choose v = sum_of (ties_at (cells v) (search_on v)) (choose v)

  -- a peak's corner at the centre of mass
  abbrev pub localized : View → Corner → List Corner
  localized v c =
      centre_or_none (refined p.centroid_radius c.x c.y true (cells v) (map_width v) (map_height v)) c

  -- the corners of a map (RULES 9.2), in its own columns and rows
  unfoldable pub corners_in : Choice → View → List Corner
  corners_in choose v = flat_map (localized v) (map (start_at (cells v) (search_on v)) (choose v))
