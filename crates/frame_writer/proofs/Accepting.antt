-- What is not refused is what the reader accepts: of such values all conditions but that of the buffer are clear, and no others are read
-- from a stream of bytes. Assumes nothing.
use Prim.Native.Nat.{ℕ, ◌*◌, ◌<◌}
use native.Mathlib.Omega.{arith}
use mathlib.Core.Path.{◌≡◌, subst}
use mathlib.Core.Bool.{false}
use mathlib.Core.List.{List, [], ◌∷◌}
use lib.ListN.{length}
use lib.Dec.{eqb, ltb}
use lib.Ieee.{binary32, of_bits}
use borrow.Author.Tests.{le-ltb, eq-eqb, eqb-true, not-false}
use Rattle.lists.specs.Places.{All}
use Rattle.lists.specs.Refusals.{lowest}
use Rattle.lists.proofs.Refusals.{lowest-none, all-clear}
use Rattle.lists.proofs.Tests.{or-neither}
use Rattle.merge_radius.specs.MergeRadius.{radius_outside}
use Rattle.stream.specs.declared.Header.{Header}
use Rattle.frame_params.specs.Ranges.{range_outside}
use Rattle.stream.specs.Stream.{sides_outside, sides_fault, parameters_fault, accepted, read_frame}
use Rattle.stream.specs.RoundTrip.{frame_bytes, Accepted}
use Rattle.stream.proofs.Accepted.{bytes_take, accepted_good, accepted_only}
use Rattle.frame_writer.specs.FrameWriter.{is_too_wide, conditions, refusal_of}

module _ (h : Header) (pixels : List ℕ) (places : ℕ) where
  -- ---- what is not refused is accepted
  pub accepted-of : refusal_of h pixels places ≡ 0 → Accepted h pixels
  unfolding refusal_of sides_fault parameters_fault
  accepted-of e =
      let clear = all-clear (conditions h pixels places) (omega arith, (omega arith, (omega arith, (omega arith, (omega arith, tt))))) e in
      let range = or-neither (range_outside h.ring h.window h.centroid_radius) (is_too_wide h) clear.1.1.0 in
      record {
        sides = rw clear.0;
        parameters = rw (range.0, clear.1.1.1.0);
        long = eqb-true (length pixels) (h.width * h.height) (not-false (eqb (length pixels) (h.width * h.height)) clear.1.0);
      }

  -- ---- what is read from a stream of bytes is refused for its buffer alone
  -- its fields are bytes, so none is too wide
  wide-none : All (λ v. v < 256) (frame_bytes h pixels) → is_too_wide h ≡ false
  unfolding frame_bytes
  wide-none b =
      let behind = b.1.1.1.1.1.1.1.1.1.1.1.1 in
      let levels = behind.1.1.1.1.1.1 in
      rw (
        le-ltb 255 h.least_neighbours (omega (arith, behind.0)),
        le-ltb 255 h.levels (omega (arith, levels.0)),
        le-ltb 65535 h.minimum_side (omega (arith, levels.1.1.0)),
        le-ltb 255 h.search_radius (omega (arith, levels.1.1.1.0)),
      )

  module _ (s : List ℕ) (e : read_frame s ≡ accepted h pixels) (b : All (λ v. v < 256) s) where
    pub read_number : refusal_of h pixels places ≡ lowest ((ltb places (length (frame_bytes h pixels)), 19) ∷ [])
    unfolding refusal_of sides_fault parameters_fault
    read_number =
        let good = accepted_good s h pixels e in
        let sides = lowest-none (sides_outside h.width h.height) 1 [] (omega arith) good.sides in
        let outside = radius_outside (of_bits binary32 h.merge_bits) in
        let range = lowest-none (range_outside h.ring h.window h.centroid_radius) 3 ((outside, 5) ∷ []) (omega arith)
        good.parameters in
        let radius = lowest-none outside 5 [] (omega arith) range.1 in
        let narrow = wide-none (subst (All (λ v. v < 256)) (accepted_only s h pixels e b)
        (bytes_take (length (frame_bytes h pixels)) s b)) in
        rw (sides.0, eq-eqb (length pixels) (h.width * h.height) good.long, range.0, narrow, radius.0)
