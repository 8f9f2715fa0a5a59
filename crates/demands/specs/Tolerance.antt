-- Request 14: "For a map made by the response, sides up to 4,096, centroid radius up to 2 and an accepted outcome, each
-- coordinate lies within 1/32 pixel of the exact centroid". `Close` of tolerance says this in whole numbers.
use Prim.Native.Nat.{ℕ, zero, suc, ◌-◌, ◌≤◌}
use Rattle.std.specs.Prelude.{◌≡◌, Bool, length, Float}
use mathlib.Core.List.{List, [], ◌∷◌}
use Rattle.lists.specs.Places.{Place, All, flat_map}
use Rattle.response.specs.Patch.{View, cells}
use Rattle.corner_list.specs.CornerList.{corners_of}
use Rattle.corner_list.specs.declared.Corner.{Corner}
use Rattle.detect.specs.Detect.{start_at}
use Rattle.center_of_mass.specs.declared.Outcome.TheVariants.{Accepted}
use Rattle.center_of_mass.specs.Promise.{Refined}
use Rattle.frame_params.specs.declared.FrameParams.{FrameParams}
use Rattle.patch_corners.specs.OneMap.{Choice, search_on, moved}
use Rattle.frame_pass.specs.Pass.{levels_in, level_view, seed_patch, seeds_of, frame_pass}
use Rattle.tolerance.specs.Tolerance.{summed_cells, Close, CloseCorner}
use Rattle.demands.specs.ResponseCall.{ResponseCall, map_of, exact_at}
use Rattle.demands.specs.FrameExact.{CallBy, frame_list}
use Rattle.demands.specs.Neighbours.{IsIn}

-- a call of `refine` on the map that a call of the response left, around any seed (x, y). A larger side would be
-- refused with 1
abbrev pub CentreTolerance : Type 0
CentreTolerance =
    (c : ResponseCall) (r : ℕ) (x y : Float) (has_map : Bool) (cx cy mass : Float) → r ≤ 2
    → Refined r x y has_map (map_of c) c.pw c.ph (Accepted cx cy mass)
    → Close (exact_at c) (summed_cells r x y) cx cy

-- "It covers seeds and patch corners alike, patch corners in their own map's coordinates before they are moved" (RULES
-- 33.3): it holds for what a finished call left in its buffers, by computed or by exact values

-- a corner of the map of v, in the map's own columns and rows: a peak's corner at its centre of mass, and close
pub record CloseIn (p : FrameParams) (choose : Choice) (v : View) (c : Corner) : Type 0 where
  pub peak : Place
  pub chosen : IsIn peak (choose v)
  pub close : CloseCorner p v (start_at (cells v) (search_on p v) peak) c

module _ (p : FrameParams) (img : List ℕ) (w h : ℕ) (choose : Choice) where
  -- the maps whose corners are merged, by the number of levels (RULES 9.3): the image's, or with more than one level
  -- that of each seed's box
  unfoldable pub found_in : ℕ → List View
  unfolding seeds_of
  found_in zero = []
  found_in (suc zero) = level_view p img w h 0 ∷ []
  found_in (suc (suc k)) = flat_map (seed_patch p img w h (suc k)) (seeds_of p img w h choose (suc (suc k)))

  -- a corner of such a map as it is in the corner buffer: with more than one level, moved by its box's corner
  abbrev pub in_frame : ℕ → View → Corner → Corner
  in_frame zero v c = c
  in_frame (suc zero) v c = c
  in_frame (suc (suc k)) v c = moved v.x0 v.y0 c

  -- a corner that comes from a close one
  pub record CloseFound (n : ℕ) (c : Corner) : Type 0 where
    pub view : View
    pub searched : IsIn view (found_in n)
    pub own : Corner
    pub close : CloseIn p choose view own
    pub stands : c ≡ in_frame n view own

-- the seeds that a call left: as many as the pass has, at the start of the seed buffer
abbrev pub seed_list : {choose : FrameParams → Choice} → CallBy choose → List Corner
seed_list {choose} c =
    corners_of c.after.seeds (length
    (frame_pass c.parameters c.img c.w c.h (choose c.parameters)).seeds)

-- each seed is a close corner of the last level's map, and each corner left by merging comes from a close one
pub record CloseLists {choose : FrameParams → Choice} (c : CallBy choose) : Type 0 where
  pub seeds : All (CloseIn c.parameters (choose c.parameters)
      (level_view c.parameters c.img c.w c.h
      (levels_in c.parameters c.img c.w c.h - 1))) (seed_list c)
  pub corners : All (CloseFound c.parameters c.img c.w c.h (choose c.parameters)
      (levels_in c.parameters c.img c.w c.h)) (frame_list c)

abbrev pub FrameTolerance : Type 0
FrameTolerance =
    (choose : FrameParams → Choice) (c : CallBy choose) → c.parameters.centroid_radius ≤ 2 → CloseLists c
