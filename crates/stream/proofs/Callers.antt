-- What a caller of `read_frame` learns from its answer. Assumes nothing.
use Prim.Native.Nat.{ℕ, ◌*◌, ◌≤◌}
use native.Mathlib.Nat.{mul-le-mul}
use native.Mathlib.Omega.{arith}
use mathlib.Core.Path.{◌≡◌, refl, sym, ap, ◌∙◌}
use mathlib.Core.List.{List}
use lib.ListN.{take}
use Rattle.lists.specs.Buffer.{front}
use Rattle.lists.proofs.Buffer.{front-take}
use Rattle.stream.specs.declared.Header.{Header}
use Rattle.std.specs.Prelude.{Result, Ok, Err}
use Rattle.lists.specs.declared.refusal.Refusal.{Refusal}
use Rattle.lists.specs.Refusals.{refusal_number}
use Rattle.lists.proofs.Judged.{number-with}
use Rattle.stream.specs.Stream.{largest_stream_side, most_pixels, Reading, accepted, refused, read_frame}
use Rattle.stream.specs.Answer.{answer_of, buffer_after, FrameRead}
use Rattle.stream.proofs.Order.{small-sides}
use Rattle.stream.specs.RoundTrip.{Accepted}
use Rattle.stream.proofs.Accepted.{accepted_good}
use Rattle.stream.proofs.Faults.{frame-known}

-- what an answer says of the stream: the header with the pixels that stand first in the buffer, or the number
abbrev pub reading_of : Result Header Refusal → List ℕ → Reading
reading_of (Ok header) buffer = accepted header (take (header.width * header.height) buffer)
reading_of (Err e) buffer = refused (refusal_number e)

-- and it says what is read of it
pub reading-is : (s buffer : List ℕ) (answer : Result Header Refusal) (after : List ℕ) → FrameRead s buffer answer after
    → reading_of answer after ≡ read_frame s
reading-is s buffer answer after r = rw (r.answer, r.pixels) (said (read_frame s) refl)
  where
    said : (k : Reading) → read_frame s ≡ k → reading_of (answer_of k) (buffer_after k buffer) ≡ k
    said (accepted h pixels) e = ap (accepted h) (front-take pixels buffer (h.width * h.height) (sym (accepted_good s h pixels e).long))
    said (refused n) e = let k = frame-known s n e in ap refused (number-with n k.1 k.0)

-- a frame: its sides, and its pixels first in the buffer
pub record FrameStands (s buffer : List ℕ) (h : Header) (after : List ℕ) : Type 0 where
  pub reading : read_frame s ≡ accepted h (take (h.width * h.height) after)
  pub good : Accepted h (take (h.width * h.height) after)
  pub width : h.width ≤ largest_stream_side
  pub height : h.height ≤ largest_stream_side
  pub fits : h.width * h.height ≤ most_pixels
  pub buffer-is : after ≡ front (take (h.width * h.height) after) buffer

pub frame_found : (s buffer : List ℕ) (h : Header) (after : List ℕ) → FrameRead s buffer (Ok h) after → FrameStands s buffer h after
frame_found s buffer h after r =
    let is : read_frame s ≡ accepted h (take (h.width * h.height) after) = sym (reading-is s buffer (Ok h) after r) in
    let good = accepted_good s h (take (h.width * h.height) after) is in
    let small = small-sides h.width h.height good.sides in
    record {
      reading = is;
      good = good;
      width = small.0;
      height = small.1;
      fits = omega (arith, mul-le-mul small.0 small.1);
      buffer-is = r.pixels ∙ ap (λ k. buffer_after k buffer) is;
    }

-- a refusal: its number, and the buffer as it was
pub refusal-found : (s buffer : List ℕ) (e : Refusal) (after : List ℕ) → FrameRead s buffer (Err e) after
    → (read_frame s ≡ refused (refusal_number e)) × (after ≡ buffer)
refusal-found s buffer e after r =
    let is : read_frame s ≡ refused (refusal_number e) = sym (reading-is s buffer (Err e) after r) in
    (is, r.pixels ∙ ap (λ k. buffer_after k buffer) is)
