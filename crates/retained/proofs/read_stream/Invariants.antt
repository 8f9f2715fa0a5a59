-- The loop of `retained::read_stream`: the bytes that came lie in the buffer, and the items that are passed have no fault. The
-- measure is what is left of the buffer.
use Rattle.std.proofs.Common.{◌-◌}
use Rattle.retention.specs.Stream.{longest_input}
use Rattle.retained.proofs.read_stream.Given as goal
use Rattle.retained.proofs.Passed.{Passed}

abbrev pub invariant-loop-stdin : goal.invariant-loop-stdin
invariant-loop-stdin l = Passed l.stream l.input l.passed

abbrev pub decreases-loop-stdin : goal.decreases-loop-stdin
decreases-loop-stdin l = longest_input - l.input.count
