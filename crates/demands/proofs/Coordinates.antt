-- Every coordinate of a pass lies from 0 to the largest side (`corners-inside` of frame_pass), and is a float of binary32: a quotient of
-- the centre of mass, or the sum of one with a box's corner. Assumes nothing.
use Prim.Native.Nat.{ℕ, zero, suc}
use mathlib.Core.Path.{◌≡◌}
use mathlib.Core.Bool.{true}
use mathlib.Core.List.{List}
use lib.Ieee.{Float, binary32, fits, add, div}
use lib.Ieee.Fits.{add-fits, div-fits}
use Rattle.lists.specs.Places.{All}
use Rattle.lists.proofs.Tests.{from-T}
use Rattle.lists.proofs.Members.{all-mapped, all-flat, all_of}
use Rattle.response.specs.Patch.{View, map_width, map_height, cells}
use Rattle.corner_list.specs.declared.Corner.{Corner}
use Rattle.corner_list.specs.CornerList.{is_inside}
use Rattle.center_of_mass.proofs.Range.{weighing}
use Rattle.merge.proofs.Result.{result-all}
use Rattle.frame_params.specs.declared.FrameParams.{FrameParams}
use Rattle.patch_corners.specs.OneMap.{Choice, moved, corners_in}
use Rattle.frame_pass.specs.Pass.{levels_in, level_view, seed_patch, corners_on, corners_about, seeds_of, found_of, frame_pass}
use Rattle.frame_pass.specs.Theorems.{SoundFrame}
use Rattle.frame_pass.proofs.Inside.{corners-all, corners-inside}

abbrev pub Fits : Corner → Type 0
Fits c = (fits binary32 c.x ≡ true) × (fits binary32 c.y ≡ true)

quotient : (x y : Float) → fits binary32 (div binary32 x y) ≡ true
quotient x y = from-T (fits binary32 (div binary32 x y)) (div-fits binary32 x y)

sum : (x y : Float) → fits binary32 (add binary32 x y) ≡ true
sum x y = from-T (fits binary32 (add binary32 x y)) (add-fits binary32 x y)

module _ (p : FrameParams) (choose : Choice) where
  map-fits : (v : View) → All Fits (corners_in p choose v)
  map-fits v =
      corners-all p v choose Fits
      (λ x y cx cy mass strength neighbours e.
      let g = weighing p.centroid_radius x y (cells v) (map_width v) (map_height v) cx cy mass true e in
      (rw g.cx-is (quotient _ _), rw g.cy-is (quotient _ _)))

  module _ (img : List ℕ) (w h : ℕ) where
    patch-fits : (v : View) → All Fits (corners_on p img w h choose v)
    patch-fits v =
        all-mapped Fits (moved v.x0 v.y0) (corners_in p choose v)
        (all_of (λ c. Fits (moved v.x0 v.y0 c)) (λ c. (sum _ _, sum _ _)) (corners_in p choose v))

    about-fits : (k : ℕ) (s : Corner) → All Fits (corners_about p img w h choose k s)
    about-fits k s =
        all-flat Fits (corners_on p img w h choose) (seed_patch p img w h k s)
        (all_of (λ v. All Fits (corners_on p img w h choose v)) patch-fits (seed_patch p img w h k s))

    found-fits : (n : ℕ) → All Fits (found_of p img w h choose n)
    unfolding found_of
    found-fits zero = tt
    found-fits (suc zero) = map-fits (level_view p img w h 0)
    found-fits (suc (suc k)) =
        all-flat Fits (corners_about p img w h choose (suc k)) (seeds_of p img w h choose (suc (suc k)))
        (all_of (λ s. All Fits (corners_about p img w h choose (suc k) s)) (about-fits (suc k)) (seeds_of p img w h choose (suc (suc k))))

    pub pass_fits : All Fits (frame_pass p img w h choose).corners
    unfolding frame_pass
    pass_fits = result-all Fits p.merge_radius (found_of p img w h choose (levels_in p img w h)) (found-fits (levels_in p img w h))

    pub pass-inside : SoundFrame p img w h → All (λ c. is_inside c ≡ true) (frame_pass p img w h choose).corners
    unfolding frame_pass
    pass-inside s =
        result-all (λ c. is_inside c ≡ true) p.merge_radius (found_of p img w h choose (levels_in p img w h))
        (corners-inside p img w h choose s).1
