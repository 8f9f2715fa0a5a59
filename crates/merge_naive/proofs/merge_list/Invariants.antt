use Prim.Native.Nat.{◌-◌}
use Rattle.std.specs.Prelude.{None}
use Rattle.corner_list.specs.Buffer.{contents, SameSlices}
use Rattle.merge_settle.specs.Internal.{start, step, StepAfter}
use Rattle.merge_naive.specs.MergeNaive.{near_by}
use Rattle.merge_naive.proofs.merge_list.Given as goal

abbrev pub invariant-loop-i : goal.invariant-loop-i
invariant-loop-i l =
    SameSlices l.initial.b l.b
    × StepAfter (near_by l.square) None l.n (contents l.initial.b) start (contents l.b) (step l.i l.k)

abbrev pub decreases-loop-i : goal.decreases-loop-i
decreases-loop-i l = l.n - l.i
