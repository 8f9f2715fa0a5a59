-- What is true where nothing is refused: sides up to the largest, values that their fields have the bytes for, and a buffer that is long
-- enough. Assumes nothing.
use Prim.Native.Nat.{ℕ, ◌*◌, ◌<◌, ◌≤◌}
use native.Mathlib.Nat.{mul-le-mul}
use native.Mathlib.Omega.{arith}
use mathlib.Core.Path.{◌≡◌}
use mathlib.Core.Bool.{true, false, ◌||◌}
use mathlib.Core.Logic.{⊎_elim}
use mathlib.Core.List.{List}
use lib.ListN.{length}
use lib.Dec.{ltb, eqb}
use borrow.Author.Tests.{ltb-false, eqb-true, not-false}
use Rattle.lists.proofs.Refusals.{all-clear}
use Rattle.lists.proofs.Tests.{or-neither, or-either}
use Rattle.ring.specs.Ring.{is_ring}
use Rattle.stream.specs.declared.Header.{Header}
use Rattle.frame_params.specs.Ranges.{range_outside}
use Rattle.frame_params.proofs.Ranges.{inside}
use Rattle.stream.specs.Stream.{largest_stream_side, most_pixels, sides_outside}
use Rattle.stream.specs.RoundTrip.{frame_bytes}
use Rattle.frame_writer.specs.FrameWriter.{is_too_wide, conditions, refusal_of}
use Rattle.frame_writer.specs.Internal.{FieldsFit}

-- ---- sides that are not refused
module _ (w h : ℕ) (e : sides_outside w h ≡ false) where
  pub sides-small : (w ≤ largest_stream_side) × (h ≤ largest_stream_side)
  sides-small = let p = or-neither (ltb largest_stream_side w) (ltb largest_stream_side h) e in
      (ltb-false largest_stream_side w p.0, ltb-false largest_stream_side h p.1)

  pub area_small : w * h ≤ most_pixels
  area_small = omega (arith, mul-le-mul sides-small.0 sides-small.1)

-- ---- values that are not refused
ring-narrow : (ring : ℕ) → is_ring ring ≡ true → ring < 256
ring-narrow ring e =
    ⊎_elim
    (λ (p : eqb ring 5 ≡ true). let q = eqb-true ring 5 p in omega (arith, q))
    (λ (p : eqb ring 10 ≡ true). let q = eqb-true ring 10 p in omega (arith, q))
    (or-either (eqb ring 5) (eqb ring 10) e)

module _ (h : Header) where
  narrow : sides_outside h.width h.height ≡ false
      → (range_outside h.ring h.window h.centroid_radius || is_too_wide h) ≡ false → FieldsFit h
  narrow s e =
      let sides = sides-small h.width h.height s in
      let both = or-neither (range_outside h.ring h.window h.centroid_radius) (is_too_wide h) e in
      let ranges = inside h.ring h.window h.centroid_radius both.0 in
      let search = or-neither (ltb 255 h.least_neighbours || ltb 255 h.levels || ltb 65535 h.minimum_side)
      (ltb 255 h.search_radius) both.1 in
      let minimum = or-neither (ltb 255 h.least_neighbours || ltb 255 h.levels) (ltb 65535 h.minimum_side) search.0 in
      let least = or-neither (ltb 255 h.least_neighbours) (ltb 255 h.levels) minimum.0 in
      record {
        width = omega (arith, sides.0);
        height = omega (arith, sides.1);
        ring = ring-narrow h.ring ranges.ring_is;
        window = omega (arith, ranges.in_window);
        least_neighbours = omega (arith, ltb-false 255 h.least_neighbours least.0);
        centroid_radius = omega (arith, ranges.in-radius);
        levels = omega (arith, ltb-false 255 h.levels least.1);
        minimum_side = omega (arith, ltb-false 65535 h.minimum_side minimum.1);
        search_radius = omega (arith, ltb-false 255 h.search_radius search.1);
      }

  module _ (pixels : List ℕ) (places : ℕ) where
    pub record Passed : Type 0 where
      pub narrow : FieldsFit h
      pub few : length pixels ≤ most_pixels
      pub enough : length (frame_bytes h pixels) ≤ places

    pub passed : refusal_of h pixels places ≡ 0 → Passed
    unfolding refusal_of
    passed e =
        let clear = all-clear (conditions h pixels places)
        (omega arith, (omega arith, (omega arith, (omega arith, (omega arith, tt))))) e in
        let sized = eqb-true (length pixels) (h.width * h.height)
        (not-false (eqb (length pixels) (h.width * h.height)) clear.1.0) in
        record {
          narrow = narrow clear.0 clear.1.1.0;
          few = omega (arith, sized, area_small h.width h.height clear.0);
          enough = ltb-false places (length (frame_bytes h pixels)) clear.1.1.1.1.0;
        }
