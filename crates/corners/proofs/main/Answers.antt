-- `corners::main` is safe and ends: what was read is answered.
use Rattle.std.proofs.Common.{ℕ, ◌∙◌, sym}
use Rattle.std.proofs.lemmas.List.{length-replicate}
use Rattle.stream.specs.Stream.{longest_stream}
use Rattle.corners.proofs.main.Goals as goal

pub slice_bounds-read_stream-end : goal.slice_bounds-read_stream-end
slice_bounds-read_stream-end c = sym (length-replicate {A = ℕ} longest_stream 0)

pub read_stream-input-requires : goal.read_stream-input-requires
read_stream-input-requires c = length-replicate {A = ℕ} longest_stream 0

pub slice_bounds-answer-end : goal.slice_bounds-answer-end
slice_bounds-answer-end c = sym (c.read_stream-input.auto.stream ∙ length-replicate {A = ℕ} longest_stream 0)
