use Rattle.response_limits.proofs.Sums.{Added, dr_term}
use Rattle.response_limits.proofs.cell.dr.Given as goal

abbrev pub invariant-loop-k : goal.invariant-loop-k
invariant-loop-k l = Added (dr_term l.p l.q) 255 l.k l.dr
