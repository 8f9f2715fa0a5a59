-- What is true of every frame that is not refused before its pass. These are statements; `proofs/` has the proof of
-- each under its name in lower case.
use Rattle.std.specs.Prelude.{ℕ, ◌-◌, ◌*◌, ◌≤◌, ◌≡◌, true, List, length, Err}
use Rattle.lists.specs.Limits.{largest_side}
use Rattle.lists.specs.Places.{All}
use Rattle.lists.specs.declared.refusal.Refusal.{Refusal}
use Rattle.accuracy.specs.Accurate.{Bytes}
use Rattle.response.specs.Patch.{View}
use Rattle.corner_list.specs.CornerList.{is_inside}
use Rattle.corner_list.specs.declared.Corner.{Corner}
use Rattle.multiscale.specs.Multiscale.{roi_of}
use Rattle.frame_params.specs.declared.FrameParams.{FrameParams}
use Rattle.patch_corners.specs.OneMap.{Choice, IsChoice, corners_in}
use Rattle.frame_params.specs.Ranges.{parameters_fit}
use Rattle.frame_pass.specs.Pass.{levels_in, context_at, frame_pass, looked_at}

-- an image of w by h bytes, and parameters in their ranges
pub record SoundFrame (p : FrameParams) (img : List ℕ) (w h : ℕ) : Type 0 where
  pub fit : parameters_fit p ≡ true
  pub narrow : w ≤ largest_side
  pub low : h ≤ largest_side
  pub sized : length img ≡ w * h
  pub bytes : Bytes img

module _ (p : FrameParams) (img : List ℕ) (w h : ℕ) (choose : Choice) where
  -- the centroid accepts every peak of every map that the frame looks at
  abbrev pub NoneDropped : Type 0
  NoneDropped =
      SoundFrame p img w h → IsChoice p choose
      → All (λ (v : View). length (corners_in p choose v) ≡ length (choose v)) (looked_at p img w h choose)

  -- with any choice, seeds and corners have coordinates from 0 to the largest: number 4 does not occur, in a seed's box
  -- or in merging
  abbrev pub CornersInside : Type 0
  CornersInside =
      SoundFrame p img w h → All (λ c. is_inside c ≡ true) (frame_pass p img w h choose).seeds
      × All (λ c. is_inside c ≡ true) (frame_pass p img w h choose).found

  -- so no seed of the last level is refused a box: it has one, or "no box" is the answer
  abbrev pub BoxesAnswered : Type 0
  BoxesAnswered =
      SoundFrame p img w h
      → All (λ (s : Corner). (e : Refusal)
      → roi_of (context_at p img w h (levels_in p img w h - 1)) s ≡ Err e → ⊥)
      (frame_pass p img w h choose).seeds
