use Rattle.response_limits.proofs.Crossed.{Compared}
use Rattle.response_limits.proofs.are_crossed.Given as goal

abbrev pub invariant-loop-i : goal.invariant-loop-i
invariant-loop-i l = Compared l.low l.high l.most l.i
