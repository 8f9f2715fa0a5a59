-- Request 11, "Write the frame stream" (RULES 30): what the reader makes of what the writer left, and the other way
-- round.
use Rattle.std.specs.Prelude.{ℕ, ◌+◌, ◌*◌, ◌<◌, ◌≤◌, ◌≡◌, List, ◌++◌, length, get_or, take, Result, Ok, Err}
use Rattle.lists.specs.declared.refusal.Refusal.{Refusal}
use Rattle.lists.specs.declared.refusal.Refusal.TheVariants.{StreamTooLong}
use Rattle.lists.specs.Places.{All}
use Rattle.stream.specs.declared.Header.{Header}
use Rattle.stream.specs.Stream.{records_for}
use Rattle.stream.specs.Answer.{FrameRead}
use Rattle.frame_writer.specs.FrameWriter.{FrameWritten}

-- ---- calls, each with its promise word for word

-- of `write_frame`: `after` is the buffer that was `before`
pub record WriteCall : Type 0 where
  pub header : Header
  pub pixels : List ℕ
  pub before : List ℕ
  pub answer : Result ℕ Refusal
  pub after : List ℕ
  pub promise : FrameWritten header pixels before answer after

-- of `read_frame`
pub record ReadCall : Type 0 where
  pub input : List ℕ
  pub before : List ℕ
  pub answer : Result Header Refusal
  pub after : List ℕ
  pub promise : FrameRead input before answer after

-- the call returns these sides and parameters, the bits of both floats among them, and these pixels
pub record Returns (r : ReadCall) (h : Header) (pixels : List ℕ) : Type 0 where
  pub header : r.answer ≡ Ok h
  pub pixels_are : take (h.width * h.height) r.after ≡ pixels

-- ---- "The reader returns the same values, float bits included": reading the bytes that were written, whatever follows
-- them
abbrev pub ReadBack : Type 0
ReadBack =
    (w : WriteCall) (n : ℕ) → w.answer ≡ Ok n
    → (rest : List ℕ) (r : ReadCall) → r.input ≡ take n w.after ++ rest
    → Returns r w.header w.pixels

-- ---- "conversely an accepted stream, read and rewritten, is the same up to its kind 4 byte"

-- the place of the kind 4 byte in a stream of these sides
abbrev pub end_of : Header → ℕ
end_of h = 22 + 33 * records_for (h.width * h.height)

-- the byte is there, and what was written is the stream with it
pub record Rewritten (r : ReadCall) (w : WriteCall) (end : ℕ) : Type 0 where
  pub kind_4 : get_or r.input end 0 ≡ 4
  pub answer : w.answer ≡ Ok (end + 1)
  pub same : take (end + 1) w.after ≡ take (end + 1) r.input

-- what is read from a stream of bytes is written, unless the buffer is too short for it: the writer refuses nothing
-- else that the reader accepts
pub record WrittenBack : Type 0 where
  pub long : (r : ReadCall) (w : WriteCall) → Returns r w.header w.pixels → All (λ v. v < 256) r.input
      → end_of w.header < length w.before → Rewritten r w (end_of w.header)
  pub short : (r : ReadCall) (w : WriteCall) → Returns r w.header w.pixels → All (λ v. v < 256) r.input
      → length w.before ≤ end_of w.header → w.answer ≡ Err StreamTooLong
