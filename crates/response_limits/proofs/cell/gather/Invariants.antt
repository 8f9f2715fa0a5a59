use Prim.Native.Nat.{◌+◌}
use lib.ListN.{get_or}
use Rattle.lists.specs.Tab.{pixel}
use Rattle.lists.proofs.Tab.{Prefix}
use Rattle.response_limits.proofs.cell.gather.Given as goal

abbrev pub invariant-loop-k : goal.invariant-loop-k
invariant-loop-k l = Prefix 16 (λ j. pixel l.img l.w (l.x + get_or l.columns j 0) (l.y + get_or l.rows j 0)) l.k l.s
