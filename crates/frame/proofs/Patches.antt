-- The corners of a box, from its map: the response is not refused, and what is added of the map are the box's corners. Assumes nothing.
use Prim.Native.Nat.{ℕ, ◌*◌, ◌≤◌}
use native.Mathlib.Nat.{le_trans, mul-le-mul}
use native.Mathlib.Omega.{arith}
use mathlib.Core.Path.{◌≡◌, sym, ◌∙◌}
use mathlib.Core.Bool.{Bool}
use mathlib.Core.List.{List}
use lib.ListN.{length, take}
use lib.Seq.{length-take-le}
use lib.Ieee.{Float, nan}
use Rattle.std.specs.Prelude.{Result, Ok, Err}
use Rattle.lists.specs.declared.refusal.Refusal.{Refusal}
use Rattle.lists.specs.Limits.{largest_side}
use Rattle.lists.specs.Places.{Place}
use Rattle.ring.specs.Ring.{ring_of}
use Rattle.ring.proofs.Places.{ring_is}
use Rattle.response.specs.Patch.{View, map_width, map_height, cells, inner_cells, InnerPatched}
use Rattle.response.specs.declared.Patch.{Patch}
use Rattle.response.proofs.Outcome.{cols-le, rows-le, area_in, allowed}
use Rattle.response.proofs.Map.{Made, filled, never-refused, cells-length, inner-length, inner-at, made-length, made-front}
use Rattle.corner_list.specs.CornerList.{Slices}
use Rattle.detect.specs.declared.Peaks.{Peaks}
use Rattle.detect.specs.Peaks.{value_at}
use Rattle.detect.specs.Internal.{Inside}
use Rattle.detect.specs.Detect.{conditions}
use Rattle.detect.proofs.Answers.{Clear, added-tells, refused-tells}
use Rattle.frame_params.specs.declared.FrameParams.{FrameParams}
use Rattle.patch_corners.specs.OneMap.{choice_of, corners_in, ties_on}
use Rattle.patch_corners.specs.MapCorners.{centres_in, ties_with, CornersAdded}
use Rattle.patch_corners.specs.Internal.{margin_of}
use Rattle.patch_corners.proofs.Fine.{Fine}
use Rattle.patch_corners.proofs.Made.{made-corners, made-ties}
use Rattle.patch_corners.proofs.Margin.{same-centres, same-ties-with}
use Rattle.frame_params.proofs.Ranges.{ranges}
use Rattle.frame_pass.proofs.Maps.{map-clear, fine-box}
use Rattle.frame.specs.Internal.{FrameChecked, AddsCorners}
use Rattle.frame.proofs.Adding.{adds-to, found-lengths}

abbrev pub box_in : FrameParams → List ℕ → ℕ → ℕ → ℕ → ℕ → ℕ → ℕ → View
box_in p img w h x0 y0 x1 y1 = record { img = img; w = w; h = h; ring = ring_of p.ring; x0 = x0; y0 = y0; x1 = x1; y1 = y1 }

module _ (p : FrameParams) (img : List ℕ) (w h x0 y0 x1 y1 : ℕ) (d : List Float) (ready : FrameChecked p img w h (length d)) (margin : ℕ)
    (e : List Float) (m : Result Patch Refusal) (patched : InnerPatched (box_in p img w h x0 y0 x1 y1) margin p.ring d m e) where
  abbrev box : View
  box = box_in p img w h x0 y0 x1 y1

  pub never-short : (x : Refusal) → m ≡ Err x → ⊥
  never-short =
      never-refused box p.ring d e m patched
      (allowed box p.ring (length d)
      (record {
        narrow = ready.sound.narrow;
        low = ready.sound.low;
        sized = ready.sound.sized;
        known = ring_is p.ring (ranges p ready.sound.fit).ring;
        enough = le_trans (area_in box) ready.enough;
      }))

  -- the map is pw by ph
  module _ (pw ph : ℕ) (q : m ≡ Ok (record { w = pw; h = ph })) where
    made : Made box (inner_cells box margin) d e pw ph
    made = filled box p.ring d e m patched pw ph q

    pub map-small : ph * pw ≤ largest_side * largest_side
    map-small =
        let high : ph ≤ largest_side = omega (arith, made.rows_are, rows-le box, ready.sound.low) in
        let wide : pw ≤ largest_side = omega (arith, made.cols-are, cols-le box, ready.sound.narrow) in
        mul-le-mul high wide

    pub map-within : ph * pw ≤ length e
    map-within = omega (arith, made.enough, made-length box (inner-length box margin) d e pw ph made)

    pub map-length : ph * pw ≡ length (take (ph * pw) e)
    map-length = sym (length-take-le (ph * pw) e map-within)

    module _ (unread : margin ≡ margin_of p) (exact : Bool) (held : ℕ) (b : Slices) (answer : Result Peaks Refusal) (b' : Slices)
        (added : CornersAdded p exact (take (ph * pw) e) pw ph held b answer b') where
      front : take (ph * pw) e ≡ inner_cells box margin
      front = made-front box (inner-length box margin) d e pw ph made

      fine : Fine p box
      fine = fine-box p img w h ready.sound x0 y0 x1 y1

      -- the cells that were computed are all that is read
      long : length (inner_cells box margin) ≡ length (cells box)
      long = inner-length box margin ∙ sym (cells-length box)

      same : (q : Place) → Inside (map_width box) (map_height box) (margin_of p) q
          → value_at (inner_cells box margin) (map_width box) q ≡ value_at (cells box) (map_width box) q
      same q i =
          inner-at box margin q.x q.y nan (omega (arith, i.left)) (omega (arith, i.right)) (omega (arith, i.top))
          (omega (arith, i.bottom))

      narrow : map_width box ≤ largest_side
      narrow = le_trans (cols-le box) ready.sound.narrow

      low : map_height box ≤ largest_side
      low = le_trans (rows-le box) ready.sound.low

      searched : Clear (conditions (length (take (ph * pw) e)) pw ph p.ring p.window p.centroid_radius)
      searched = rw (front, long, made.cols-are, made.rows_are) (map-clear p box fine)

      centres : centres_in p exact (take (ph * pw) e) pw ph ≡ corners_in p (choice_of p exact) box
      centres =
          rw (front, made.cols-are, made.rows_are)
          (same-centres p exact (inner_cells box margin) (cells box) (map_width box) (map_height box) narrow low long same
          ∙ made-corners p box fine exact)

      ties : ties_with p exact (take (ph * pw) e) pw ph ≡ ties_on p (choice_of p exact) box
      ties =
          rw (front, made.cols-are, made.rows_are)
          (same-ties-with p exact (inner_cells box margin) (cells box) (map_width box) (map_height box) narrow low long same
          ∙ made-ties p box fine exact)

      pub box-adds : AddsCorners (corners_in p (choice_of p exact) box) (ties_on p (choice_of p exact) box) held b answer b'
      box-adds =
          adds-to _ _ held b _ _ answer b' centres ties
          (record {
            added = λ n z. let t = added-tells _ searched _ _ held b answer b' added n z in (t.count, t.fits, t.buffer, t.tied);
            refused = λ k z. let t = refused-tells _ searched _ _ held b answer b' added k z in (t.refusal, t.short);
            lengths = found-lengths _ searched _ _ held b answer b' added;
          })
