-- What `zakdomp_write_stream` promises, by the promise of `write_frame` (RULES 30.3).
use Rattle.std.specs.Prelude.{ℕ, ◌≡◌, List, length}
use Rattle.stream.specs.declared.Header.{Header}
use Rattle.stream.specs.RoundTrip.{frame_bytes}
use Rattle.frame_writer.specs.FrameWriter.{FrameWritten}
use Rattle.lists.specs.Refusals.{judged, result_or}

-- r is the number of the answer, and the buffer and the length are the answer's too
pub record StreamTold (h : Header) (pixels stream : List ℕ) (written r : ℕ) (stream' : List ℕ)
    (written' : ℕ) : Type 0 where
  pub answer : FrameWritten h pixels stream (judged r (length (frame_bytes h pixels))) stream'
  pub written_is : written' ≡ result_or r (length (frame_bytes h pixels)) written
