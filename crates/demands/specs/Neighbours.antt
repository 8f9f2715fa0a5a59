-- Request 5, neighbours kept with the corner (RULES 24): "The corner record keeps the positive-neighbour count that
-- admitted it, and a merge that replaces a corner takes the newcomer's count."
use Rattle.std.specs.Prelude.{ℕ, ◌≤◌, ◌≡◌, List, ◌∷◌, ◌++◌, pos}
use Rattle.std.specs.Int.Signed.{lt_z}
use Rattle.lists.specs.Places.{Place, All}
use Rattle.response.specs.Patch.{View, map_width, map_height, cells}
use Rattle.response.specs.Exact.{fifths_in}
use Rattle.corner_list.specs.declared.Corner.{Corner}
use Rattle.detect.specs.Peaks.{positives, value_at}
use Rattle.detect.specs.Detect.{neighbours_at}
use Rattle.frame_params.specs.declared.FrameParams.{FrameParams}
use Rattle.patch_corners.specs.OneMap.{search_on, computed_choice}
use Rattle.frame_pass.specs.Pass.{looked_at}
use Rattle.demands.specs.FrameExact.{FrameCall, frame_list}

-- the maps in which the program looked for peaks
abbrev pub own_maps : FrameCall → List View
own_maps c = looked_at c.parameters c.img c.w c.h (computed_choice c.parameters)

-- one of a list
pub record IsIn {A : Type 0} (a : A) (l : List A) : Type 0 where
  pub ahead : List A
  pub behind : List A
  pub split : l ≡ ahead ++ (a ∷ behind)

-- a corner that comes from a peak of one of these maps: it has the peak's strength and its positive neighbours, which
-- were enough for a peak
pub record OfPeak (p : FrameParams) (maps : List View) (k : Corner) : Type 0 where
  pub view : View
  pub searched : IsIn view maps
  pub place : Place
  pub peak : IsIn place (computed_choice p view)
  pub strength : k.strength ≡ value_at (cells view) (map_width view) place
  pub neighbours : k.neighbours ≡ neighbours_at (cells view) (search_on p view) place
  pub enough : p.least_neighbours ≤ k.neighbours

-- each corner of a finished frame does, although it was moved to its centre of mass and into the image, and merged with
-- others
abbrev pub NeighboursKept : Type 0
NeighboursKept = (c : FrameCall) → All (OfPeak c.parameters (own_maps c)) (frame_list c)

-- the positive neighbours of a place by exact values
abbrev pub exact_neighbours : FrameParams → View → Place → ℕ
exact_neighbours p v = positives (λ q. lt_z (pos 0) (fifths_in v q.x q.y)) (map_width v) (map_height v) p.window

-- are as many, around every place of each of these maps
abbrev pub CountsExact : Type 0
CountsExact =
    (c : FrameCall) → All (λ v. (a : Place)
    → exact_neighbours c.parameters v a ≡ neighbours_at (cells v) (search_on c.parameters v) a) (own_maps c)
