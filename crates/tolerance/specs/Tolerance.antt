-- How far the centre of mass lies from the exact one, in a map made by the response: what "close" means.
use Rattle.std.specs.Prelude.{ℕ, ◌*◌, ◌<◌, List, [], map, ℤ, Float}
use Rattle.lists.specs.Places.{Place, All, sum_of}
use Rattle.float32.specs.Float32.{round_half_away}
use Rattle.float32.specs.declared.Rounded.{Rounded}
use Rattle.float32.specs.declared.Rounded.TheVariants.{Natural, Negative, Beyond}
use Rattle.float32.specs.Value.{Within, plus_part}
use Rattle.response.specs.Patch.{View, cells}
use Rattle.response.specs.Exact.{fifths_in}
use Rattle.corner_list.specs.declared.Corner.{Corner}
use Rattle.detect.specs.Detect.{start_at}
use Rattle.center_of_mass.specs.CenterOfMass.{cells_about}
use Rattle.frame_params.specs.declared.FrameParams.{FrameParams}
use Rattle.patch_corners.specs.OneMap.{Choice, search_on, localized}

-- ---- the cells that the centroid sums, the centre included (RULES 33.1): its window around the seed (x, y), which is
-- rounded half away from zero
abbrev pub window_about : ℕ → Rounded → Rounded → List Place
window_about r (Natural cx) (Natural cy) = cells_about r cx cy
window_about r (Natural cx) (Negative n) = []
window_about r (Natural cx) Beyond = []
window_about r (Negative n) c = []
window_about r Beyond c = []

abbrev pub summed_cells : ℕ → Float → Float → List Place
summed_cells r x y = window_about r (round_half_away x) (round_half_away y)

-- ---- the exact centroid of some cells (RULES 33.1), weighted by the exact fifths above 0: (exact_x / exact_mass,
-- exact_y / exact_mass)
module _ (fifths : Place → ℤ) (ps : List Place) where
  -- the sum of the weights
  abbrev pub exact_mass : ℕ
  exact_mass = sum_of (λ p. plus_part (fifths p)) ps

  -- weighted by the columns, and by the rows
  abbrev pub exact_x : ℕ
  exact_x = sum_of (λ p. p.x * plus_part (fifths p)) ps

  abbrev pub exact_y : ℕ
  exact_y = sum_of (λ p. p.y * plus_part (fifths p)) ps

-- within 1/32 pixel (RULES 33.2), in whole numbers: |x - X / M| ≤ 1 / 32 is |32 M x - 32 X| ≤ M. x is a fraction too,
-- and `Within` multiplies by its denominator
abbrev pub Within32nd : Float → ℕ → ℕ → Type 0
Within32nd x X M = Within x (32 * X) 0 (32 * M) M

-- (cx, cy) is that near to the exact centroid of some cells, and there is one
pub record Close (fifths : Place → ℤ) (ps : List Place) (cx cy : Float) : Type 0 where
  pub some : 0 < exact_mass fifths ps
  pub across : Within32nd cx (exact_x fifths ps) (exact_mass fifths ps)
  pub down : Within32nd cy (exact_y fifths ps) (exact_mass fifths ps)

-- ---- the corners of a map, in its own columns and rows: a peak starts as the corner s, which moves to its centre of
-- mass c
abbrev pub CloseCorner : FrameParams → View → Corner → Corner → Type 0
CloseCorner p v s c =
    Close (λ q. fifths_in v q.x q.y) (summed_cells p.centroid_radius s.x s.y) c.x c.y

-- for each peak, the corner that it becomes if it is accepted: one after the other these are `corners_in`, not yet
-- moved by a box's corner
abbrev pub CloseCorners : FrameParams → Choice → View → Type 0
CloseCorners p choose v =
    All (λ (s : Corner). All (CloseCorner p v s) (localized p v s))
    (map (start_at (cells v) (search_on p v)) (choose v))
