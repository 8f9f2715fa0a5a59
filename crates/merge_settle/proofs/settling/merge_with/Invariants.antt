use Prim.Native.Nat.{◌-◌}
use mathlib.Core.Path.{◌≡◌}
use lib.ListN.{length}
use Rattle.corner_list.specs.Buffer.{contents, SameSlices}
use Rattle.merge_grid.specs.Grid.{joins}
use Rattle.merge_settle.specs.Internal.{slots_of, Indexed, step, StepAfter}
use Rattle.merge_settle.proofs.settling.merge_with.Given as goal

abbrev pub invariant-loop-i : goal.invariant-loop-i
invariant-loop-i l =
    SameSlices l.initial.b l.b
    × StepAfter (joins l.g) l.list l.n (contents l.initial.b) (step l.done l.initial.k) (contents l.b) (step l.i l.k)
    × Indexed l.g l.floor (slots_of l.table) l.b.xs.now l.b.ys.now l.k × (length l.table ≡ length l.initial.table)

abbrev pub decreases-loop-i : goal.decreases-loop-i
decreases-loop-i l = l.n - l.i
