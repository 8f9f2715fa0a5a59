use Rattle.response.specs.Internal.{Cleared}
use Rattle.response.proofs.rows.clear_part.Given as goal

abbrev pub invariant-loop-j : goal.invariant-loop-j
invariant-loop-j l = Cleared l.w l.a l.b l.c l.j l.initial.map l.map
