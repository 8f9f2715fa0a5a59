-- The corners of a given map, added to a buffer (RULES 9.7): its peaks, each at its centre of mass, and what is
-- promised about the answer and the buffer. The map may hold any floats. If the response made the map, every centre is
-- accepted, and these are the corners of OneMap (`made-corners` of proofs/).
use Rattle.std.specs.Prelude.{ℕ, ◌-◌, max, min, Bool, true, List, map, length, Float, Result}
use Rattle.lists.specs.Places.{Place, block, keep, sum_of}
use Rattle.lists.specs.declared.refusal.Refusal.{Refusal}
use Rattle.corner_list.specs.CornerList.{Slices}
use Rattle.corner_list.specs.declared.Corner.{Corner}
use Rattle.detect.specs.declared.Search.{Search}
use Rattle.detect.specs.declared.Peaks.{Peaks}
use Rattle.detect.specs.Detect.{peak_in, start_at, starts_in, ties_at, ties_in, conditions, PeaksAdded}
use Rattle.center_of_mass.specs.declared.Outcome.{Outcome}
use Rattle.center_of_mass.specs.declared.Outcome.TheVariants.{Accepted, Rejected, OutOfBounds, IllConditioned, Refused}
use Rattle.center_of_mass.specs.CenterOfMass.{refined}
use Rattle.frame_params.specs.declared.FrameParams.{FrameParams}
use Rattle.patch_corners.specs.OneMap.{at_place}
pub use Rattle.patch_corners.specs.OneMap.{search_with}

-- a corner, given the outcome around it: at its centre of mass if that is accepted; otherwise where it was, which is
-- what the other outcomes return (RULES 5.3: the seed). So no peak of a given map is dropped
abbrev pub centre_or_seed : Outcome → Corner → Corner
centre_or_seed (Accepted x y mass) c = at_place x y c
centre_or_seed (Rejected x y) c = c
centre_or_seed (OutOfBounds x y) c = c
centre_or_seed (IllConditioned x y) c = c
centre_or_seed (Refused e) c = c

-- in a map of w by h
unfoldable pub centred : ℕ → List Float → ℕ → ℕ → Corner → Corner
centred radius m w h c = centre_or_seed (refined radius c.x c.y true m w h) c

-- ---- what is added, by computed or by exact values as the flag says (RULES 34.1)
-- the peaks of a map of w by h, each moved so
abbrev pub centres_in : FrameParams → Bool → List Float → ℕ → ℕ → List Corner
centres_in p exact m w h = map (centred p.centroid_radius m w h) (starts_in m (search_with p exact w h))

-- and their ties (RULES 23.2)
abbrev pub ties_with : FrameParams → Bool → List Float → ℕ → ℕ → ℕ
ties_with p exact m w h = ties_in m (search_with p exact w h)

-- What `add_map_corners` promises for a map m and a buffer that holds `held`: what peak finding promises, with the
-- corners so moved. Answer, number, values and buffer are given by equations; 1, 2, 3 and 10 are the refusals, and a
-- refused call leaves the buffer unchanged
abbrev pub CornersAdded : FrameParams → Bool → List Float → ℕ → ℕ → ℕ → Slices → Result Peaks Refusal → Slices → Type 0
CornersAdded p exact m w h =
    PeaksAdded (conditions (length m) w h p.ring p.window p.centroid_radius)
    (centres_in p exact m w h) (ties_with p exact m w h)

-- ---- RULES 9.9, the same for the rows a up to, not including, b, as far as they lie inside the border
abbrev pub peaks_in_rows : List Float → Search → ℕ → ℕ → List Place
peaks_in_rows m s a b =
    keep (peak_in m s) (block s.border (s.w - s.border) (max a s.border) (min b (s.h - s.border)))

abbrev pub centres_in_rows : FrameParams → Bool → List Float → ℕ → ℕ → ℕ → ℕ → List Corner
centres_in_rows p exact m w h a b =
    map (centred p.centroid_radius m w h)
    (map (start_at m (search_with p exact w h)) (peaks_in_rows m (search_with p exact w h) a b))

abbrev pub ties_in_rows : FrameParams → Bool → List Float → ℕ → ℕ → ℕ → ℕ → ℕ
ties_in_rows p exact m w h a b =
    sum_of (ties_at m (search_with p exact w h)) (peaks_in_rows m (search_with p exact w h) a b)

-- What `add_row_corners` promises: as above, for those rows
abbrev pub RowCornersAdded : FrameParams → Bool → List Float → ℕ → ℕ → ℕ → ℕ → ℕ → Slices
    → Result Peaks Refusal → Slices
    → Type 0
RowCornersAdded p exact m w h a b =
    PeaksAdded (conditions (length m) w h p.ring p.window p.centroid_radius)
    (centres_in_rows p exact m w h a b) (ties_in_rows p exact m w h a b)
