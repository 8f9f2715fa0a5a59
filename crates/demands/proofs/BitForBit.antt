-- Each from the promise where its number is 0. Assumes nothing.
use Prim.Native.Nat.{ℕ}
use mathlib.Core.Path.{◌≡◌, refl, sym, ap, ◌∙◌}
use mathlib.Core.Bool.{Bool, cond}
use mathlib.Core.List.{List}
use lib.ListN.{length, take}
use lib.Ieee.{Float}
use Rattle.lists.proofs.Buffer.{front-take}
use Rattle.response.specs.Patch.{cells}
use Rattle.response.proofs.Map.{filled, front-is}
use Rattle.pyramid.proofs.Levels.{built, level-found}
use Rattle.corner_list.specs.declared.Corner.{Corner}
use Rattle.corner_list.specs.CornerList.{Slices, corners_of, front_corners}
use Rattle.std.specs.Prelude.{Option, Result, Ok}
use Rattle.lists.specs.declared.refusal.Refusal.{Refusal}
use Rattle.lists.specs.Refusals.{number_of}
use Rattle.lists.proofs.Judged.{judged-ok}
use Rattle.corner_list.proofs.Corners.{corners-front}
use Rattle.center_of_mass.specs.declared.Outcome.{Outcome}
use Rattle.center_of_mass.specs.declared.Outcome.TheVariants.{Rejected}
use Rattle.center_of_mass.specs.CenterOfMass as center
use Rattle.center_of_mass.specs.Promise.{Refined}
use Rattle.multiscale.specs.declared.RoiContext.{RoiContext}
use Rattle.multiscale.specs.declared.Roi.{Roi}
use Rattle.multiscale.specs.Multiscale as multiscale
use Rattle.multiscale.specs.Promise.{Boxed}
use Rattle.merge.specs.Merge as merge
use Rattle.merge_slice.specs.MergeSlice.{refusal_for, MergesSlice}
use Rattle.frame.proofs.Callers.{finished-tells}
use Rattle.finder.specs.Finder.{output_of}
use Rattle.demands.specs.ResponseCall.{ResponseCall, view_in, map_of}
use Rattle.demands.specs.BitForBit.{BitForBit}
use Rattle.demands.proofs.Added.{added-are}
use Rattle.lists.specs.Refusals.{result_or}
use Rattle.lists.specs.Buffer.{front}

map_is : (c : ResponseCall) → map_of c ≡ cells (view_in c)
map_is c =
    let v = view_in c in
    front-is v c.before c.after c.pw c.ph
    (filled v c.ring c.before c.after (Ok (record { w = c.pw; h = c.ph })) c.promise c.pw c.ph refl)

-- ---- outcomes
refined-is : (radius : ℕ) (x y : Float) (has_map : Bool) (m : List Float) (w h : ℕ) (r : Outcome)
    → Refined radius x y has_map m w h r → center.number_of r ≡ 0
    → r ≡ cond has_map (center.outcome_of radius x y m w h) (Rejected x y)
unfolding center.refined
refined-is radius x y has_map m w h r f none = f.answer ∙ rw (sym f.number ∙ none)

box-is : (c : RoiContext) (s : Corner) (r : Result (Option Roi) Refusal) → Boxed c s r → number_of r ≡ 0
    → r ≡ Ok (multiscale.bounds (multiscale.span_on c c.width s.x) (multiscale.span_on c c.height s.y))
unfolding multiscale.roi_of
box-is c s r f none = f.answer ∙ rw (sym f.number ∙ none)

-- ---- merged corners
left_is : (number : ℕ) (left : List Corner) (b b' : Slices) (n : ℕ) → merge.Leaves number left b (Ok n) b' → corners_of b' n ≡ left
left_is number left b b' n f =
    let k = judged-ok number (length left) n f.answer in
    ap (λ (s : Slices). corners_of s n) (f.buffer ∙ ap (λ (j : ℕ). result_or j (front_corners left b) b) k.0)
    ∙ corners-front left b n k.1

slice_is : (radius : Float) (count : ℕ) (cs cs' : List Corner) (b b' : Slices) (n : ℕ) → MergesSlice radius count cs b (Ok n) cs' b'
    → take n cs' ≡ merge.result_of radius (take count cs)
slice_is radius count cs cs' b b' n f =
    let left = merge.result_of radius (take count cs) in
    let k = judged-ok (refusal_for radius count cs b) (length left) n f.answer in
    ap (take n) (f.corners ∙ ap (λ (j : ℕ). result_or j (front left cs) cs) k.0) ∙ front-take left cs n k.1

pub bit_for_bit : BitForBit
bit_for_bit = record {
  chess_response_u8_patch = map_is;
  find_peaks = λ {m} {w} {h} p. added-are m w h p;
  refine = refined-is;
  build_pyramid = λ base w h count least d e n f k l.
      level-found base w h count least d e n (built base w h count least d _ e f n refl) k l;
  compute_roi = box-is;
  merge_corners_simple = λ radius count b b' n f. left_is _ _ b b' n f;
  merge_by_table = λ radius count b b' table table' n f. left_is _ _ b b' n f.merges;
  merge_corners_naive = λ radius count b b' n f. left_is _ _ b b' n f;
  merge_corner_slice = slice_is;
  find_corners = λ c. (finished-tells _ c.parameters c.img c.w c.h c.before (record { corners = c.count; ties = c.ties })
      c.after c.promise).corners;
  find = λ input text text' end f. rw f.holds (front-take (output_of input) text end f.ends);
}
