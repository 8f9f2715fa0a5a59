-- The maps of a frame: what the parameters' ranges are, that a sound image's levels are sound and its boxes fine to look at, and that the
-- centroid then accepts every peak. Assumes nothing.
use Prim.Native.Nat.{ℕ, zero, suc}
use native.Mathlib.Nat.{le_trans, mul_comm}
use mathlib.Core.Path.{◌≡◌, refl, ◌∙◌}
use mathlib.Core.List.{List}
use lib.ListN.{length}
use Rattle.lists.specs.Places.{All}
use Rattle.lists.proofs.Members.{all_map, all-flat, all_of}
use Rattle.ring.specs.Ring.{ring_of}
use Rattle.pyramid_levels.specs.Levels.{level_side}
use Rattle.pyramid.specs.Pyramid.{level_pixels}
use Rattle.pyramid_levels.proofs.Sides.{side-le}
use Rattle.pyramid.proofs.Lengths.{length-level}
use Rattle.pyramid.proofs.Levels.{level-bytes}
use Rattle.response.specs.Patch.{View, map_width, map_height, cells}
use Rattle.response.proofs.Outcome.{cols-le, rows-le}
use Rattle.response.proofs.Map.{cells-length}
use Rattle.corner_list.specs.declared.Corner.{Corner}
use Rattle.detect.specs.Detect.{conditions}
use Rattle.detect.proofs.Answers.{Clear, sound-clear}
use Rattle.std.specs.Prelude.{Option, None, Some, Result, Ok, Err}
use Rattle.lists.specs.declared.refusal.Refusal.{Refusal}
use Rattle.multiscale.specs.declared.Roi.{Roi}
use Rattle.multiscale.specs.Multiscale.{roi_of}
use Rattle.frame_params.specs.declared.FrameParams.{FrameParams}
use Rattle.frame_params.proofs.Ranges.{ranges}
use Rattle.patch_corners.specs.OneMap.{Choice, corners_in}
use Rattle.patch_corners.proofs.Fine.{Fine}
use Rattle.patch_corners.proofs.Accepting.{corners-count}
use Rattle.frame_pass.specs.Pass.{levels_in, level_view, context_at, patch_of, seed_patch, seeds_of, maps_of, looked_at}
use Rattle.frame_pass.specs.Theorems.{SoundFrame, NoneDropped}

-- ---- a map that is fine is searched
pub map-clear : (p : FrameParams) (v : View) → Fine p v
    → Clear (conditions (length (cells v)) (map_width v) (map_height v) p.ring p.window p.centroid_radius)
map-clear p v f =
    sound-clear (length (cells v)) (map_width v) (map_height v) p.ring p.window p.centroid_radius
    (record {
      wide = le_trans (cols-le v) f.narrow;
      high = le_trans (rows-le v) f.low;
      whole = cells-length v ∙ mul_comm (map_height v) (map_width v);
      ring_is = f.ring_is;
      in_window = f.in_window;
      in-radius = f.in-radius;
    })

-- ---- a sound image
module _ (p : FrameParams) (img : List ℕ) (w h : ℕ) (s : SoundFrame p img w h) where
  -- any box of it is fine
  pub fine-box : (x0 y0 x1 y1 : ℕ)
      → Fine p (record { img = img; w = w; h = h; ring = ring_of p.ring; x0 = x0; y0 = y0; x1 = x1; y1 = y1 })
  fine-box x0 y0 x1 y1 =
      let r = ranges p s.fit in
      record {
        ring_is = r.ring;
        in_window = r.window;
        in-radius = r.centroid_radius;
        bytes = s.bytes;
        ring = refl;
        narrow = s.narrow;
        low = s.low;
      }

  -- each level is sound
  pub sound-level : (k : ℕ) → SoundFrame p (level_pixels img w h k) (level_side w k) (level_side h k)
  sound-level k =
      record {
        fit = s.fit;
        narrow = le_trans (side-le w k) s.narrow;
        low = le_trans (side-le h k) s.low;
        sized = length-level img w h k s.sized;
        bytes = level-bytes img w h s.bytes k;
      }

-- and fine as one box
pub fine-level : (p : FrameParams) (img : List ℕ) (w h : ℕ) → SoundFrame p img w h → (k : ℕ) → Fine p (level_view p img w h k)
fine-level p img w h s k =
    fine-box p (level_pixels img w h k) (level_side w k) (level_side h k) (sound-level p img w h s k) 0 0 (level_side w k) (level_side h k)

-- ---- each map that a frame looks at, by any choice
module _ (p : FrameParams) (img : List ℕ) (w h : ℕ) (s : SoundFrame p img w h) where
  patch-fine : (a : Result (Option Roi) Refusal) → All (Fine p) (patch_of p img w h a)
  patch-fine (Ok (Some b)) = (fine-box p img w h s b.x0 b.y0 b.x1 b.y1, tt)
  patch-fine (Ok None) = tt
  patch-fine (Err e) = tt

  pub seed-fine : (k : ℕ) (c : Corner) → All (Fine p) (seed_patch p img w h k c)
  seed-fine k c = patch-fine (roi_of (context_at p img w h k) c)

  maps-fine : (choose : Choice) (n : ℕ) → All (Fine p) (maps_of p img w h choose n)
  unfolding maps_of
  maps-fine choose zero = tt
  maps-fine choose (suc zero) = (fine-level p img w h s 0, tt)
  maps-fine choose (suc (suc k)) = (
    fine-level p img w h s (suc k),
    all-flat (Fine p) (seed_patch p img w h (suc k)) (seeds_of p img w h choose (suc (suc k)))
        (all_of (λ c. All (Fine p) (seed_patch p img w h (suc k) c)) (seed-fine (suc k)) (seeds_of p img w h choose (suc (suc k)))),
  )

pub looked-fine : (p : FrameParams) (img : List ℕ) (w h : ℕ) (choose : Choice) → SoundFrame p img w h
    → All (Fine p) (looked_at p img w h choose)
unfolding looked_at
looked-fine p img w h choose s = maps-fine p img w h s choose (levels_in p img w h)

-- and so the centroid accepts each of its peaks
pub none_dropped : (p : FrameParams) (img : List ℕ) (w h : ℕ) (choose : Choice) → NoneDropped p img w h choose
none_dropped p img w h choose s c =
    all_map (Fine p) (λ v. length (corners_in p choose v) ≡ length (choose v)) (λ v f. corners-count p v choose f c)
    (looked_at p img w h choose) (looked-fine p img w h choose s)
