use Prim.Native.Nat.{◌+◌}
use lib.ListN.{get_or}
use Rattle.lists.proofs.Tab.{Prefix}
use Rattle.response.specs.Internal.{Bytes}
use Rattle.response.proofs.alone.pick.Given as goal

abbrev pub invariant-loop-k : goal.invariant-loop-k
invariant-loop-k l = Prefix 16 (λ j. get_or l.img (l.base + get_or l.o-items j 0) 0) l.k l.s × Bytes l.s
