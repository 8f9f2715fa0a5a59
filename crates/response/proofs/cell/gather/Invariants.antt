use Prim.Native.Nat.{◌+◌}
use lib.ListN.{get_or}
use Rattle.response.proofs.Filling.{Quarters}
use Rattle.response.proofs.cell.gather.Given as goal

abbrev pub invariant-loop-k : goal.invariant-loop-k
invariant-loop-k l = Quarters (λ j. get_or l.tile (l.base + get_or l.off j 0) 0) l.k l.s
