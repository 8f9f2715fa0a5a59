-- The frame pass over lists, for a choice of peaks (RULES 9 and 10.2): the program's pass and the exact pass are this
-- one definition, with two choices.
use Prim.Native.Nat.{ℕ, zero, suc}
use mathlib.Core.List.{List, [], ◌∷◌, map}
use Rattle.std.specs.Prelude.{Option, None, Some, Result, Ok, Err}
use Rattle.lists.specs.Places.{flat_map, sum_of}
use Rattle.lists.specs.declared.refusal.Refusal.{Refusal}
use Rattle.ring.specs.Ring.{ring_of}
use Rattle.response.specs.Patch.{View, whole}
use Rattle.pyramid_levels.specs.Levels.{level_side, level_count}
use Rattle.pyramid.specs.Pyramid.{level_pixels}
use Rattle.corner_list.specs.declared.Corner.{Corner}
use Rattle.multiscale.specs.declared.RoiContext.{RoiContext}
use Rattle.multiscale.specs.declared.Roi.{Roi}
use Rattle.multiscale.specs.Multiscale.{roi_of}
use Rattle.merge.specs.Merge.{result_of}
use Rattle.frame_params.specs.declared.FrameParams.{FrameParams}
use Rattle.patch_corners.specs.OneMap.{Choice, moved, corners_in, ties_on}

-- the lists of a pass, and the ties of the peaks that `found` comes from
pub record Pass : Type 0 where
  pub seeds : List Corner
  -- the corners before merging
  pub found : List Corner
  pub corners : List Corner
  pub ties : ℕ

-- ---- the pass over an image of w by h
module _ (p : FrameParams) (img : List ℕ) (w h : ℕ) where
  -- how many levels it has (RULES 6.2)
  abbrev pub levels_in : ℕ
  levels_in = level_count w h p.levels p.minimum_side

  -- level k as one box
  abbrev pub level_view : ℕ → View
  level_view k = whole (level_pixels img w h k) (level_side w k) (level_side h k) (ring_of p.ring)

  -- the box in the image of a seed of level k (RULES 7)
  abbrev pub context_at : ℕ → RoiContext
  context_at k =
      record {
        width = w;
        height = h;
        ring = p.ring;
        window = p.window;
        centroid_radius = p.centroid_radius;
        search_radius = p.search_radius;
        level = k;
      }

  -- one patch, or none if there is no box
  abbrev pub patch_of : Result (Option Roi) Refusal → List View
  patch_of (Ok (Some b)) =
      record { img = img; w = w; h = h; ring = ring_of p.ring; x0 = b.x0; y0 = b.y0; x1 = b.x1; y1 = b.y1 } ∷ []
  patch_of (Ok None) = []
  patch_of (Err e) = []

  abbrev pub seed_patch : ℕ → Corner → List View
  seed_patch k s = patch_of (roi_of (context_at k) s)

  module _ (choose : Choice) where
    -- the corners of a patch, moved by the box's corner
    abbrev pub corners_on : View → List Corner
    corners_on v = map (moved v.x0 v.y0) (corners_in p choose v)

    -- those of a seed
    abbrev pub corners_about : ℕ → Corner → List Corner
    corners_about k s = flat_map corners_on (seed_patch k s)

    -- the seeds, by the number of levels: with more than one, the corners of the last (RULES 9.3)
    unfoldable pub seeds_of : ℕ → List Corner
    unfolding corners_in
    seeds_of zero = []
    seeds_of (suc zero) = []
    seeds_of (suc (suc k)) = corners_in p choose (level_view (suc k))

    -- the corners before merging: with no level, none; with one level, those of its map; with more, those of each
    -- seed's box, in order
    unfoldable pub found_of : ℕ → List Corner
    unfolding corners_in seeds_of
    found_of zero = []
    found_of (suc zero) = corners_in p choose (level_view 0)
    found_of (suc (suc k)) = flat_map (corners_about (suc k)) (seeds_of (suc (suc k)))

    -- the ties of a seed's patch
    abbrev pub ties_about : ℕ → Corner → ℕ
    ties_about k s = sum_of (ties_on p choose) (seed_patch k s)

    -- RULES 23.3: the ties of the peaks found before merging, in the same maps as `found_of`; a peak of two patches
    -- counts in each, a seed in none
    unfoldable pub ties_found : ℕ → ℕ
    unfolding seeds_of
    ties_found zero = 0
    ties_found (suc zero) = ties_on p choose (level_view 0)
    ties_found (suc (suc k)) = sum_of (ties_about (suc k)) (seeds_of (suc (suc k)))

    -- and merged (RULES 9.4)
    unfoldable pub frame_pass : Pass
    unfolding seeds_of found_of ties_found
    frame_pass =
        record {
          seeds = seeds_of levels_in;
          found = found_of levels_in;
          corners = result_of p.merge_radius (found_of levels_in);
          ties = ties_found levels_in;
        }

    -- "the maps a frame looks at" (RULES 10.3): the last level's whole map and, with more than one level, the patch map
    -- of each seed that has a box
    unfoldable pub maps_of : ℕ → List View
    unfolding seeds_of
    maps_of zero = []
    maps_of (suc zero) = level_view 0 ∷ []
    maps_of (suc (suc k)) = level_view (suc k) ∷ flat_map (seed_patch (suc k)) (seeds_of (suc (suc k)))

    unfoldable pub looked_at : List View
    unfolding maps_of
    looked_at = maps_of levels_in
