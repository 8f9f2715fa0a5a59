use Rattle.response_limits.proofs.Sums.{Added, sr_term}
use Rattle.response_limits.proofs.cell.sr.Given as goal

abbrev pub invariant-loop-k : goal.invariant-loop-k
invariant-loop-k l = Added (sr_term l.p l.q) 510 l.k l.sr
