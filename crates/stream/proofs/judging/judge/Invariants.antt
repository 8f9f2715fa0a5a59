use Prim.Native.Nat.{◌-◌}
use lib.ListN.{length}
use Rattle.stream.proofs.Order.{AtStage}
use Rattle.stream.proofs.judging.judge.Given as goal

abbrev pub invariant-loop-kind : goal.invariant-loop-kind
invariant-loop-kind l = AtStage l.input l.kind l.at l.left

abbrev pub decreases-loop-kind : goal.decreases-loop-kind
decreases-loop-kind l = length l.input - l.at
