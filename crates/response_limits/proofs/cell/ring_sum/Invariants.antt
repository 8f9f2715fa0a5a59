use Rattle.response_limits.proofs.Sums.{Added, pair_at}
use Rattle.response_limits.proofs.cell.ring_sum.Given as goal

abbrev pub invariant-loop-k : goal.invariant-loop-k
invariant-loop-k l = Added (pair_at l.p) 510 l.k l.sum
