-- The loop of `corners::read_stream`: the bytes that came lie in the buffer. The measure is what is left of it.
use Rattle.std.proofs.Common.{◌-◌}
use Rattle.input.proofs.Turn.{Came}
use Rattle.stream.specs.Stream.{longest_stream}
use Rattle.corners.proofs.read_stream.Given as goal

abbrev pub invariant-loop-stdin : goal.invariant-loop-stdin
invariant-loop-stdin l = Came longest_stream l.stream l.input

abbrev pub decreases-loop-stdin : goal.decreases-loop-stdin
decreases-loop-stdin l = longest_stream - l.input.count
