-- Demand 3: "Whatever the frame not refused, with the two lists alike for each map it looks at, its whole corner list
-- is the one that exact peak choice leads to: as many corners, in that order, each field bit for bit."
use Rattle.std.specs.Prelude.{ℕ, ◌≡◌, ◌↔◌, List, map, length, Ok}
use Rattle.lists.specs.Places.{All}
use Rattle.lists.specs.Refusals.{lowest}
use Rattle.float32.specs.Float32.{lift}
use Rattle.float32.specs.Value.{IsWhole}
use Rattle.response.specs.Patch.{View, map_width, map_height, cells}
use Rattle.response.specs.Exact.{fifths_in}
use Rattle.accuracy.specs.Accurate.{Bytes}
use Rattle.agreement.specs.Agreement.{NoTie}
use Rattle.corner_list.specs.CornerList.{corners_of}
use Rattle.corner_list.specs.declared.Corner.{Corner}
use Rattle.detect.specs.Detect.{conditions}
use Rattle.frame_params.specs.declared.FrameParams.{FrameParams}
use Rattle.patch_corners.specs.OneMap.{Choice, search_on, computed_choice, exact_choice}
use Rattle.frame_pass.specs.Pass.{frame_pass, looked_at}
use Rattle.frame_pass.specs.Theorems.{CornersInside, BoxesAnswered, NoneDropped}
use Rattle.frame.specs.Frame.{Buffers, FrameFound}
use Rattle.demands.specs.PeakCall.{PeakCall, search_in}
use Rattle.demands.specs.PeaksAlike.{program_list, position, name_of}

-- a call of `find_corners` that finished, with its promise word for word: by computed or by exact values, as its flag
-- says
pub record CallBy (choose : FrameParams → Choice) : Type 0 where
  pub parameters : FrameParams
  pub img : List ℕ
  pub w : ℕ
  pub h : ℕ
  -- the pixels have type u8
  pub bytes : Bytes img
  -- the buffers before and after, how many corners were found, and the ties
  pub before : Buffers
  pub after : Buffers
  pub count : ℕ
  pub ties : ℕ
  pub promise : FrameFound (choose parameters) parameters img w h before
      (Ok (record { corners = count; ties = ties })) after

abbrev pub FrameCall : Type 0
FrameCall = CallBy computed_choice

-- "its whole corner list": it is at the start of the corner buffer
abbrev pub frame_list : {choose : FrameParams → Choice} → CallBy choose → List Corner
frame_list c = corners_of c.after.corners c.count

-- "the one that exact peak choice leads to"
abbrev pub exact_corners : FrameCall → List Corner
exact_corners c = (frame_pass c.parameters c.img c.w c.h (exact_choice c.parameters)).corners

-- "each map it looks at": "The maps a frame looks at are those of the exact pass"
abbrev pub maps_in : FrameCall → List View
maps_in c = looked_at c.parameters c.img c.w c.h (exact_choice c.parameters)

-- "the two lists alike" for the map of a box
abbrev pub Alike : FrameParams → View → Type 0
Alike p v = computed_choice p v ≡ exact_choice p v

pub record IsExact (c : FrameCall) : Type 0 where
  pub corners : frame_list c ≡ exact_corners c
  pub count : c.count ≡ length (exact_corners c)

abbrev pub FrameExact : Type 0
FrameExact = (c : FrameCall) → All (Alike c.parameters) (maps_in c) → IsExact c

-- Alike is what demand 3 says about a map: for every call of peak finding that searches the box's map as the frame
-- does, the list that it adds to its buffer and the exact list name the same places in the same order exactly if the
-- two are alike.
abbrev pub AlikeByName : Type 0
AlikeByName =
    (p : FrameParams) (v : View) (c : PeakCall (cells v) (map_width v) (map_height v)) → search_in c ≡ search_on p v
    → (map position (program_list c) ≡ map name_of (exact_choice p v)) ↔ Alike p v

-- and on a map that the frame looks at, only a buffer that is too short can refuse such a call
abbrev pub MapsSearched : Type 0
MapsSearched =
    (c : FrameCall) → All (λ v. lowest
    (conditions (length (cells v)) (map_width v) (map_height v) c.parameters.ring c.parameters.window
    c.parameters.centroid_radius) ≡ 0) (maps_in c)

-- "no peak of the exact list has in its window an equal exact value with a larger computed one"
abbrev pub WithoutTie : FrameParams → View → Type 0
WithoutTie p v =
    NoTie (cells v) (λ q. fifths_in v q.x q.y) (map_width v) (map_height v) p.window (exact_choice p v)

-- at a threshold that, once lifted, is the whole number k, each map is alike exactly when it has no such tie; so
-- without ties the frame's list is the exact one
abbrev pub MapsAlike : Type 0
MapsAlike =
    (c : FrameCall) (k : ℕ) → IsWhole (lift c.parameters.threshold) k
    → All (λ v. Alike c.parameters v ↔ WithoutTie c.parameters v) (maps_in c)

abbrev pub FrameWithoutTies : Type 0
FrameWithoutTies =
    (c : FrameCall) (k : ℕ) → IsWhole (lift c.parameters.threshold) k
    → All (WithoutTie c.parameters) (maps_in c) → IsExact c

-- And number 4 does not occur in a frame that is not refused before its pass, for any choice of peaks: each corner has
-- coordinates from 0 to the largest, and each seed has a box or "no box".
abbrev pub FourNever : Type 0
FourNever =
    (p : FrameParams) (img : List ℕ) (w h : ℕ) (choose : Choice)
    → CornersInside p img w h choose × BoxesAnswered p img w h choose

-- The centroid drops no peak of a map that a frame looks at, so the lists that number 10 counts are lists of peaks.
abbrev pub PeaksKept : Type 0
PeaksKept = (p : FrameParams) (img : List ℕ) (w h : ℕ) (choose : Choice) → NoneDropped p img w h choose
