-- What a caller of `write_frame` learns from its answer. Assumes nothing.
use Prim.Native.Nat.{ℕ, ◌+◌}
use native.Mathlib.Omega.{arith}
use mathlib.Core.Path.{◌≡◌, sym, ◌∙◌}
use mathlib.Core.List.{List, [], ◌∷◌, ◌++◌}
use lib.ListN.{length, get_or, length-append}
use lib.Seq.{get_or_at}
use Rattle.lists.specs.Buffer.{front}
use Rattle.std.specs.Prelude.{Result, Ok}
use Rattle.lists.specs.declared.refusal.Refusal.{Refusal}
use Rattle.lists.proofs.Judged.{judged-ok}
use Rattle.stream.specs.declared.Header.{Header}
use Rattle.stream.specs.Stream.{records_for}
use Rattle.stream.specs.RoundTrip.{pixel_bytes, frame_bytes, Accepted}
use Rattle.frame_writer.specs.FrameWriter.{refusal_of, FrameWritten}
use Rattle.frame_writer.specs.Internal.{head_bytes}
use Rattle.frame_writer.proofs.Accepting.{accepted-of}

-- the last byte of a stream is its end
pub ends-with-4 : (h : Header) (pixels : List ℕ) (n : ℕ) → n + 1 ≡ length (frame_bytes h pixels) → get_or (frame_bytes h pixels) n 0 ≡ 4
unfolding frame_bytes
ends-with-4 h pixels n e =
    let before = head_bytes h ++ pixel_bytes (records_for (length pixels)) pixels in
    get_or_at before 4 [] 0 n (omega (arith, length-append before (4 ∷ [])))

module _ (h : Header) (pixels before : List ℕ) (r : Result ℕ Refusal) (after : List ℕ) (p : FrameWritten h pixels before r after) where
  -- a number 0: the stream stands first
  pub stream-stands : refusal_of h pixels (length before) ≡ 0 → after ≡ front (frame_bytes h pixels) before
  stream-stands z = p.out ∙ rw z

  -- a stream that was written: nothing was refused, and so many bytes are the stream
  pub record StreamWritten (n : ℕ) : Type 0 where
    pub good : Accepted h pixels
    pub long : n ≡ length (frame_bytes h pixels)
    pub stands : after ≡ front (frame_bytes h pixels) before

  pub stream-written : (n : ℕ) → r ≡ Ok n → StreamWritten n
  stream-written n e =
      let q = judged-ok (refusal_of h pixels (length before)) _ n (sym e ∙ p.answer) in
      record { good = accepted-of h pixels (length before) q.0; long = q.1; stands = stream-stands q.0 }
