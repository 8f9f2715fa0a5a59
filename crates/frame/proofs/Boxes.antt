-- The corners of a seed's box, those of the box's map, moved by its corner, and their peaks' ties. Assumes nothing.
use Prim.Native.Nat.{ℕ, ◌≤◌}
use native.Mathlib.Omega.{arith}
use native.Mathlib.Nat.{add-zero}
use mathlib.Core.Path.{◌≡◌, refl, sym, ap, ◌∙◌}
use mathlib.Core.List.{List, [], map, append-nil}
use Rattle.std.specs.Prelude.{Option, None, Some, Result, Ok, Err}
use Rattle.std.specs.Result.{result_unwrap_or}
use Rattle.lists.specs.declared.refusal.Refusal.{Refusal}
use Rattle.lists.specs.Limits.{largest_side}
use Rattle.lists.specs.Places.{flat_map, sum_of}
use Rattle.corner_list.specs.declared.Corner.{Corner}
use Rattle.corner_list.specs.CornerList.{Slices, places_of}
use Rattle.detect.specs.declared.Peaks.{Peaks}
use Rattle.multiscale.specs.declared.Roi.{Roi}
use Rattle.multiscale.specs.Multiscale.{roi_of}
use Rattle.multiscale.proofs.Box.{box-inside}
use Rattle.frame_params.specs.declared.FrameParams.{FrameParams}
use Rattle.patch_corners.specs.OneMap.{Choice, moved, corners_in, ties_on}
use Rattle.frame_pass.specs.Pass.{context_at, patch_of, corners_on, corners_about, ties_about}
use Rattle.frame_pass.specs.Theorems.{SoundFrame}
use Rattle.frame.specs.Internal.{AddsCorners}
use Rattle.frame.proofs.Adding.{adds_none, adds-to}
use Rattle.frame.proofs.Patches.{box_in}

-- ---- the box of a seed, by the answer
module _ (p : FrameParams) (img : List ℕ) (w h : ℕ) where
  no-patch : (a : Result (Option Roi) Refusal) → None ≡ result_unwrap_or a None → [] ≡ patch_of p img w h a
  no-patch (Ok None) e = refl
  no-patch (Ok (Some r)) e = absurd (let no : ⊥ = grind arith in no)
  no-patch (Err x) e = refl

  a-patch : (a : Result (Option Roi) Refusal) (r : Roi) → Some r ≡ result_unwrap_or a None → Ok (Some r) ≡ a
  a-patch (Ok None) r e = absurd (let no : ⊥ = grind arith in no)
  a-patch (Ok (Some q)) r e = ap Ok e
  a-patch (Err x) r e = absurd (let no : ⊥ = grind arith in no)

module _ (choose : Choice) (p : FrameParams) (img : List ℕ) (w h : ℕ) (k : ℕ) (s : Corner) where
  abbrev answer-of : Result (Option Roi) Refusal
  answer-of = roi_of (context_at p img w h k) s

  -- ---- no box
  pub about-none : None ≡ result_unwrap_or answer-of None → (held : ℕ) (b : Slices) → held ≤ places_of b
      → AddsCorners (corners_about p img w h choose k s) (ties_about p img w h choose k s) held b
      (Ok (record { count = 0; ties = 0 })) b
  about-none o held b l =
      let none = no-patch p img w h answer-of o in
      adds_none (corners_about p img w h choose k s) (ties_about p img w h choose k s) held b
      (ap (flat_map (corners_on p img w h choose)) (sym none)) (ap (sum_of (ties_on p choose)) (sym none)) l

  -- ---- a box
  module _ (r : Roi) (q : Some r ≡ result_unwrap_or answer-of None) where
    -- its corner lies in the image
    pub about-corner : SoundFrame p img w h → (r.x0 ≤ largest_side) × (r.y0 ≤ largest_side)
    about-corner sound =
        let i = box-inside (context_at p img w h k) s r (sym (a-patch p img w h answer-of r q)) in
        (omega (arith, i.0, i.1, sound.narrow), omega (arith, i.2, i.3, sound.low))

    -- the corners of its map, moved by its corner, are the seed's
    pub about-added : (held : ℕ) (b : Slices) (answer : Result Peaks Refusal) (b' : Slices)
        → AddsCorners (map (moved r.x0 r.y0) (corners_in p choose (box_in p img w h r.x0 r.y0 r.x1 r.y1)))
        (ties_on p choose (box_in p img w h r.x0 r.y0 r.x1 r.y1)) held b answer b'
        → AddsCorners (corners_about p img w h choose k s) (ties_about p img w h choose k s) held b answer b'
    about-added held b answer b' d =
        let v = box_in p img w h r.x0 r.y0 r.x1 r.y1 in
        let one = a-patch p img w h answer-of r q in
        adds-to _ _ held b _ _ answer b'
        (sym (append-nil (map (moved r.x0 r.y0) (corners_in p choose v)))
        ∙ ap (λ (z : Result (Option Roi) Refusal). flat_map (corners_on p img w h choose) (patch_of p img w h z)) one)
        (sym (add-zero (ties_on p choose v))
        ∙ ap (λ (z : Result (Option Roi) Refusal). sum_of (ties_on p choose) (patch_of p img w h z)) one) d
