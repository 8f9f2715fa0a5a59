-- How many ties and how many seeds a sound frame can have: sums of them stay far below 2^64. Assumes nothing.
use Prim.Native.Nat.{ℕ, ◌*◌, ◌≤◌}
use native.Mathlib.Omega.{arith}
use mathlib.Core.Path.{ap}
use mathlib.Core.Bool.{Bool}
use mathlib.Core.List.{List, [], ◌∷◌}
use lib.ListN.{length}
use Rattle.lists.specs.Limits.{largest_map, most_ties}
use Rattle.lists.specs.Places.{sum_of}
use Rattle.response.specs.Patch.{View, map_width, map_height, cells}
use Rattle.corner_list.specs.declared.Corner.{Corner}
use Rattle.std.specs.Prelude.{Option, None, Some, Result, Ok, Err}
use Rattle.lists.specs.declared.refusal.Refusal.{Refusal}
use Rattle.multiscale.specs.declared.Roi.{Roi}
use Rattle.multiscale.specs.Multiscale.{roi_of}
use Rattle.detect.specs.declared.Search.{Search}
use Rattle.detect.specs.Detect.{read_in}
use Rattle.detect.specs.Internal.{Searchable}
use Rattle.detect.proofs.Answers.{searchable}
use Rattle.detect.proofs.Cells.{inside-few}
use Rattle.detect.proofs.Choice.{peaks-at-most}
use Rattle.detect.proofs.Ties.{ties-few}
use Rattle.frame_params.specs.declared.FrameParams.{FrameParams}
use Rattle.patch_corners.specs.OneMap.{choice_of, corners_in, ties_on}
use Rattle.patch_corners.specs.MapCorners.{search_with}
use Rattle.patch_corners.proofs.Choices.{chosen, one_of_two}
use Rattle.patch_corners.proofs.Fine.{Fine}
use Rattle.patch_corners.proofs.Accepting.{corners-count}
use Rattle.frame_pass.specs.Pass.{level_view, context_at, patch_of, ties_about}
use Rattle.frame_pass.specs.Theorems.{SoundFrame}
use Rattle.frame_pass.proofs.Maps.{map-clear, fine-box, fine-level}

-- ---- one map
module _ (p : FrameParams) (exact : Bool) (v : View) (fine : Fine p v) where
  abbrev search : Search
  search = search_with p exact (map_width v) (map_height v)

  can-search : Searchable (cells v) search
  can-search =
      searchable (cells v) exact (map_width v) (map_height v) p.ring p.threshold p.window p.least_neighbours
      p.centroid_radius
      (map-clear p v fine)

  pub map-tied : ties_on p (choice_of p exact) v ≤ most_ties
  map-tied = rw (← chosen p v fine.bytes exact) (ties-few (cells v) search can-search)

  map-few : length (corners_in p (choice_of p exact) v) ≤ largest_map
  map-few =
      let s = search in
      let most = peaks-at-most (read_in (cells v) s) s.w s.h s.border s.window s.least_neighbours in
      let same = ap length (chosen p v fine.bytes exact) in
      omega (
        arith,
        corners-count p v (choice_of p exact) fine (one_of_two p exact),
        same,
        most,
        inside-few s can-search.wide can-search.high,
      )

-- ---- a sound image
module _ (p : FrameParams) (exact : Bool) (img : List ℕ) (w h : ℕ) (s : SoundFrame p img w h) where
  -- the corners of a level, which are the seeds of the last
  pub level-few : (k : ℕ) → length (corners_in p (choice_of p exact) (level_view p img w h k)) ≤ largest_map
  level-few k = map-few p exact (level_view p img w h k) (fine-level p img w h s k)

  -- the ties about one seed
  pub about-tied : (k : ℕ) (c : Corner) → ties_about p img w h (choice_of p exact) k c ≤ most_ties
  about-tied k c = of (roi_of (context_at p img w h k) c)
    where
      of : (a : Result (Option Roi) Refusal) → sum_of (ties_on p (choice_of p exact)) (patch_of p img w h a) ≤ most_ties
      of (Ok (Some b)) = omega (arith, map-tied p exact _ (fine-box p img w h s b.x0 b.y0 b.x1 b.y1))
      of (Ok None) = omega arith
      of (Err e) = omega arith

  -- and about a list of them
  pub seeds-tied : (k : ℕ) (l : List Corner) → sum_of (ties_about p img w h (choice_of p exact) k) l ≤ most_ties * length l
  seeds-tied k [] = omega arith
  seeds-tied k (c ∷ l) = omega (arith, about-tied k c, seeds-tied k l)
