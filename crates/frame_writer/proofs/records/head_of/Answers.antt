-- `frame_writer::records::head_of` meets its contract: the bytes of each field. Assumes nothing.
use Prim.Native.Nat.{ℕ, ◌/◌, ◌%◌, ◌<◌, ◌^◌}
use native.Mathlib.Omega.{arith}
use mathlib.Core.Path.{◌≡◌, ◌∙◌}
use Rattle.std.specs.Int.{w16, w32, to_le_bytes}
use Rattle.stream.specs.RoundTrip.{bytes16, bytes32}
use Rattle.frame_writer.proofs.records.head_of.Goals as goal

two : (n : ℕ) → n < 65536 → to_le_bytes w16 n ≡ bytes16 n
two n l = let high : n / 256 % 256 ≡ n / 256 = omega arith in rw high

four : (n : ℕ) → n < 2 ^ 32 → to_le_bytes w32 n ≡ bytes32 n
four n l =
    let a : n % 65536 % 256 ≡ n % 256 = omega arith in
    let b : n % 65536 / 256 ≡ n / 256 % 256 = omega arith in
    let c : n / 65536 / 256 ≡ n / 16777216 % 256 = omega arith in
    rw (a, b, c)

pub returns : goal.returns
returns c =
    let h = c.args.header in
    rw (
      c.to_le_bytes-width.ensures ∙ two h.width c.requires.width,
      c.to_le_bytes-height.ensures ∙ two h.height c.requires.height,
      c.to_le_bytes-threshold.ensures ∙ four h.threshold_bits (omega arith),
      c.to_le_bytes-merge.ensures ∙ four h.merge_bits (omega arith),
      c.to_le_bytes-minimum.ensures ∙ two h.minimum_side c.requires.minimum_side,
    )
