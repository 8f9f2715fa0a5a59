use Rattle.retention.proofs.Passing.{Passing}
use Rattle.retention.proofs.reading.wanted.Given as goal

abbrev pub invariant-loop-passed : goal.invariant-loop-passed
invariant-loop-passed l = Passing l.input l.k l.passed
