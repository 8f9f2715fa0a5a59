use Prim.Native.Nat.{◌-◌}
use Rattle.retention.proofs.Texts.{Listed}
use Rattle.retention.proofs.list.list_records.Given as goal

abbrev pub invariant-loop-at : goal.invariant-loop-at
invariant-loop-at l = Listed l.input l.initial.out l.at l.end l.out

abbrev pub decreases-loop-at : goal.decreases-loop-at
decreases-loop-at l = l.stop - l.at
