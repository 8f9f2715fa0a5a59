-- `frame_writer::judging::refusal` meets its contract: each return is the first condition of the table that holds. Assumes nothing.
use Prim.Native.Nat.{◌*◌}
use mathlib.Core.Path.{◌≡◌, sym, ap, ◌∙◌}
use mathlib.Core.Bool.{true, false}
use lib.ListN.{length}
use lib.Dec.{eqb}
use lib.Ieee.{binary32, of_bits}
use borrow.Author.Tests.{lt-ltb, le-ltb, eq-eqb, ne_eqb}
use Rattle.merge_radius.specs.MergeRadius.{radius_outside}
use Rattle.frame_params.specs.Ranges.{range_outside}
use Rattle.stream.specs.Stream.{sides_outside}
use Rattle.stream.specs.RoundTrip.{frame_bytes}
use Rattle.frame_writer.specs.FrameWriter.{is_too_wide, refusal_of}
use Rattle.frame_writer.proofs.Bytes.{frame-long}
use Rattle.frame_writer.proofs.judging.refusal.Goals as goal
use Rattle.frame_writer.proofs.judging.refusal.Goals.{Else-is_large, Else-is_outside, Else-is_outside-2, Else-is_too_wide}
use Rattle.frame_writer.proofs.judging.refusal.Goals.{Else-pixels-header}

-- ---- what the tests that were passed say of the arguments

sides : (c : Else-is_large) → sides_outside c.args.header.width c.args.header.height ≡ false
sides c = sym c.is_large.ensures ∙ c.if-is_large.false

size : (c : Else-pixels-header)
    → eqb (length c.args.pixels.now) (c.args.header.width * c.args.header.height) ≡ true
size c = eq-eqb _ _ c.if-pixels-header.false

range : (c : Else-is_outside)
    → (range_outside c.args.header.ring c.args.header.window c.args.header.centroid_radius) ≡ false
range c = sym c.is_outside.ensures ∙ c.if-is_outside.false

narrow : (c : Else-is_too_wide) → is_too_wide c.args.header ≡ false
narrow c = sym c.is_too_wide.ensures ∙ c.if-is_too_wide.false

radius : (c : Else-is_outside-2) → radius_outside (of_bits binary32 c.args.header.merge_bits) ≡ false
radius c = ap radius_outside (sym c.from_bits.ensures) ∙ sym c.is_outside-2.ensures ∙ c.if-is_outside-2.false

pub returns-then-is_large : goal.returns-then-is_large
unfolding refusal_of
returns-then-is_large c = rw (← c.is_large.ensures, c.if-is_large.true)

pub returns-then-pixels-header : goal.returns-then-pixels-header
unfolding refusal_of
returns-then-pixels-header c = rw (sides (goal.at.returns-then-pixels-header c).Else-is_large, ne_eqb _ _ c.if-pixels-header.true)

pub returns-then-is_outside : goal.returns-then-is_outside
unfolding refusal_of
returns-then-is_outside c =
    rw (
      sides (goal.at.returns-then-is_outside c).Else-is_large,
      size (goal.at.returns-then-is_outside c).Else-pixels-header,
      ← c.is_outside.ensures,
      c.if-is_outside.true,
    )

pub returns-then-is_too_wide : goal.returns-then-is_too_wide
unfolding refusal_of
returns-then-is_too_wide c =
    rw (
      sides (goal.at.returns-then-is_too_wide c).Else-is_large,
      size (goal.at.returns-then-is_too_wide c).Else-pixels-header,
      range (goal.at.returns-then-is_too_wide c).Else-is_outside,
      ← c.is_too_wide.ensures,
      c.if-is_too_wide.true,
    )

pub returns-then-is_outside-2 : goal.returns-then-is_outside-2
unfolding refusal_of
returns-then-is_outside-2 c =
    let outside = ap radius_outside (sym c.from_bits.ensures) ∙ sym c.is_outside-2.ensures ∙ c.if-is_outside-2.true in
    rw (
      sides (goal.at.returns-then-is_outside-2 c).Else-is_large,
      size (goal.at.returns-then-is_outside-2 c).Else-pixels-header,
      range (goal.at.returns-then-is_outside-2 c).Else-is_outside,
      narrow (goal.at.returns-then-is_outside-2 c).Else-is_too_wide,
      outside,
    )

pub returns-then-places-length_of : goal.returns-then-places-length_of
unfolding refusal_of
returns-then-places-length_of c =
    let long : length (frame_bytes c.args.header c.args.pixels.now) ≡ c.length_of.result =
    frame-long c.args.header c.args.pixels.now ∙ sym c.length_of.ensures in
    rw (
      sides (goal.at.returns-then-places-length_of c).Else-is_large,
      size (goal.at.returns-then-places-length_of c).Else-pixels-header,
      range (goal.at.returns-then-places-length_of c).Else-is_outside,
      narrow (goal.at.returns-then-places-length_of c).Else-is_too_wide,
      radius (goal.at.returns-then-places-length_of c).Else-is_outside-2,
      long,
      lt-ltb _ _ c.if-places-length_of.true,
    )

pub returns : goal.returns
unfolding refusal_of
returns c =
    let long : length (frame_bytes c.args.header c.args.pixels.now) ≡ c.length_of.result =
    frame-long c.args.header c.args.pixels.now ∙ sym c.length_of.ensures in
    rw (
      sides (goal.at.returns c).Else-is_large,
      size (goal.at.returns c).Else-pixels-header,
      range (goal.at.returns c).Else-is_outside,
      narrow (goal.at.returns c).Else-is_too_wide,
      radius (goal.at.returns c).Else-is_outside-2,
      long,
      le-ltb _ _ c.if-places-length_of.false,
    )
