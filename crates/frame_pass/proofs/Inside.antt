-- The corners of a frame have coordinates from 0 to the largest side: a centre of mass lies within its map, and a patch within the
-- image. Assumes nothing.
use Prim.Native.Nat.{ℕ, zero, suc, ◌+◌, ◌-◌, ◌≤◌}
use native.Mathlib.Nat.{le_trans}
use native.Mathlib.Omega.{arith}
use mathlib.Core.Path.{◌≡◌, refl}
use mathlib.Core.Bool.{true}
use mathlib.Core.List.{List, map}
use lib.Ieee.{Float}
use Rattle.lists.specs.Limits.{last_level}
use Rattle.lists.specs.Places.{All}
use Rattle.lists.proofs.Members.{all_map, all-mapped, all-flat, all_of}
use Rattle.ring.specs.Ring.{ring_of}
use Rattle.pyramid_levels.proofs.Sides.{count-few}
use Rattle.response.specs.Patch.{View, map_width, map_height, cells}
use Rattle.response.proofs.Outcome.{cols-le, rows-le}
use Rattle.response.proofs.Map.{box-cols, box-rows}
use Rattle.corner_list.specs.CornerList.{is_inside}
use Rattle.corner_list.specs.declared.Corner.{Corner}
use Rattle.corner_list.proofs.Inside.{inside-upto}
use Rattle.detect.specs.Detect.{start_at}
use Rattle.center_of_mass.specs.declared.Outcome.{Outcome}
use Rattle.center_of_mass.specs.declared.Outcome.TheVariants.{Accepted, Rejected, OutOfBounds, IllConditioned, Refused}
use Rattle.center_of_mass.specs.CenterOfMass.{refined}
use Rattle.center_of_mass.proofs.Range.{within-map, within-image}
use Rattle.std.specs.Prelude.{Option, None, Some, Result, Ok, Err}
use Rattle.lists.specs.declared.refusal.Refusal.{Refusal}
use Rattle.multiscale.specs.declared.Roi.{Roi}
use Rattle.multiscale.specs.Multiscale.{roi_of}
use Rattle.multiscale.specs.Internal as multiscale
use Rattle.multiscale.proofs.Box.{box-inside, not-refused}
use Rattle.frame_params.specs.declared.FrameParams.{FrameParams}
use Rattle.frame_params.proofs.Ranges.{ranges}
use Rattle.patch_corners.specs.OneMap.{Choice, search_on, centre_or_none, moved, localized, corners_in}
use Rattle.patch_corners.proofs.Fine.{Fine, map-usual}
use Rattle.frame_pass.specs.Pass.{levels_in, level_view, context_at, patch_of, seed_patch, corners_on, corners_about, seeds_of, found_of}
use Rattle.frame_pass.specs.Pass.{frame_pass}
use Rattle.frame_pass.specs.Theorems.{SoundFrame, CornersInside, BoxesAnswered}
use Rattle.frame_pass.proofs.Maps.{fine-box, fine-level}

abbrev Taken : Corner → Type 0
Taken c = is_inside c ≡ true

-- ---- one map, by any choice
module _ (p : FrameParams) (v : View) (choose : Choice) where
  -- what holds of every accepted centre of mass, whatever the strength and the neighbours, holds of each corner
  module _ (P : Corner → Type 0)
      (f : (x y cx cy mass strength : Float) (neighbours : ℕ)
      → refined p.centroid_radius x y true (cells v) (map_width v) (map_height v) ≡ Accepted cx cy mass
      → P (record { x = cx; y = cy; strength = strength; neighbours = neighbours })) where
    kept-all : (c : Corner) (o : Outcome) → refined p.centroid_radius c.x c.y true (cells v) (map_width v) (map_height v) ≡ o
        → All P (centre_or_none o c)
    kept-all c (Accepted x y mass) e = (f c.x c.y x y mass c.strength c.neighbours e, tt)
    kept-all c (Rejected x y) e = tt
    kept-all c (OutOfBounds x y) e = tt
    kept-all c (IllConditioned x y) e = tt
    kept-all c (Refused n) e = tt

    pub corners-all : All P (corners_in p choose v)
    unfolding corners_in
    corners-all =
        all-flat P (localized p v) (map (start_at (cells v) (search_on p v)) (choose v))
        (all_of (λ c. All P (localized p v c)) (λ c. kept-all c _ refl) (map (start_at (cells v) (search_on p v)) (choose v)))

  module _ (f : Fine p v) where
    pub map-inside : All (λ c. is_inside c ≡ true) (corners_in p choose v)
    map-inside =
        corners-all Taken
        (λ x y cx cy mass strength neighbours e.
        let u = within-map p.centroid_radius x y true (cells v) (map_width v) (map_height v) cx cy mass (map-usual v f.bytes) e in
        inside-upto (record { x = cx; y = cy; strength = strength; neighbours = neighbours }) (map_width v) (map_height v)
        (le_trans (cols-le v) f.narrow) (le_trans (rows-le v) f.low) u.0 u.1)

    -- moved by the box's corner, where the box lies in the image
    pub moved_inside : v.x0 + map_width v ≤ v.w → v.y0 + map_height v ≤ v.h
        → All (λ c. is_inside c ≡ true) (map (moved v.x0 v.y0) (corners_in p choose v))
    moved_inside a b =
        all-mapped Taken (moved v.x0 v.y0) (corners_in p choose v)
        (corners-all (λ c. Taken (moved v.x0 v.y0 c))
        (λ x y cx cy mass strength neighbours e.
        let u = within-image p.centroid_radius x y true (cells v) (map_width v) (map_height v) cx cy mass (map-usual v f.bytes) e
        v.x0 v.y0 v.w v.h a b f.narrow f.low in
        inside-upto (moved v.x0 v.y0 (record { x = cx; y = cy; strength = strength; neighbours = neighbours })) v.w v.h
        f.narrow f.low u.0 u.1))

-- ---- the pass
module _ (p : FrameParams) (img : List ℕ) (w h : ℕ) where
  -- no seed's box is refused for its context
  roi-sound : SoundFrame p img w h → (k : ℕ) → k ≤ last_level → multiscale.SoundContext (context_at p img w h k)
  roi-sound s k l =
      let r = ranges p s.fit in
      record {
        width = s.narrow;
        height = s.low;
        ring = r.ring;
        window = r.window;
        centroid_radius = r.centroid_radius;
        search_radius = r.search_radius;
        level = l;
      }

  module _ (s : SoundFrame p img w h) (choose : Choice) where
    about-inside : (k : ℕ) (c : Corner) → All (λ c. is_inside c ≡ true) (corners_about p img w h choose k c)
    about-inside k c = all-flat Taken (corners_on p img w h choose) (seed_patch p img w h k c) (go (roi_of (context_at p img w h k) c) refl)
      where
        go : (a : Result (Option Roi) Refusal) → roi_of (context_at p img w h k) c ≡ a
            → All (λ v. All (λ c. is_inside c ≡ true) (corners_on p img w h choose v)) (patch_of p img w h a)
        go (Ok (Some roi)) e =
            let v : View =
            record { img = img; w = w; h = h; ring = ring_of p.ring; x0 = roi.x0; y0 = roi.y0; x1 = roi.x1; y1 = roi.y1 } in
            let b = box-inside (context_at p img w h k) c roi e in
            let i : roi.x0 + map_width v ≤ w = rw (box-cols v b.0 b.2 b.1 b.3) (omega (arith, b.0, b.1)) in
            let j : roi.y0 + map_height v ≤ h = rw (box-rows v b.0 b.2 b.1 b.3) (omega (arith, b.2, b.3)) in
            (moved_inside p v choose (fine-box p img w h s roi.x0 roi.y0 roi.x1 roi.y1) i j, tt)
        go (Ok None) e = tt
        go (Err r) e = tt

    seeds-inside : (n : ℕ) → All (λ c. is_inside c ≡ true) (seeds_of p img w h choose n)
    unfolding seeds_of
    seeds-inside zero = tt
    seeds-inside (suc zero) = tt
    seeds-inside (suc (suc k)) = map-inside p (level_view p img w h (suc k)) choose (fine-level p img w h s (suc k))

    found_inside : (n : ℕ) → All (λ c. is_inside c ≡ true) (found_of p img w h choose n)
    unfolding found_of
    found_inside zero = tt
    found_inside (suc zero) = map-inside p (level_view p img w h 0) choose (fine-level p img w h s 0)
    found_inside (suc (suc k)) =
        all-flat Taken (corners_about p img w h choose (suc k)) (seeds_of p img w h choose (suc (suc k)))
        (all_of (λ c. All Taken (corners_about p img w h choose (suc k) c)) (about-inside (suc k))
        (seeds_of p img w h choose (suc (suc k))))

pub corners-inside : (p : FrameParams) (img : List ℕ) (w h : ℕ) (choose : Choice) → CornersInside p img w h choose
unfolding frame_pass
corners-inside p img w h choose s =
    (seeds-inside p img w h s choose (levels_in p img w h), found_inside p img w h s choose (levels_in p img w h))

pub boxes-answered : (p : FrameParams) (img : List ℕ) (w h : ℕ) (choose : Choice) → BoxesAnswered p img w h choose
boxes-answered p img w h choose s =
    let k : levels_in p img w h - 1 ≤ last_level = omega (arith, count-few w h p.levels p.minimum_side s.narrow) in
    all_map Taken (λ (c : Corner). (e : Refusal) → roi_of (context_at p img w h (levels_in p img w h - 1)) c ≡ Err e → ⊥)
    (λ c i. not-refused (context_at p img w h (levels_in p img w h - 1)) c (roi-sound p img w h s (levels_in p img w h - 1) k) i)
    (frame_pass p img w h choose).seeds (corners-inside p img w h choose s).0
