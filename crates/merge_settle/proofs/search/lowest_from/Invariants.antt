use Rattle.std.proofs.Common.{◌+◌, ◌≤◌, length}
use Rattle.merge_settle.specs.Internal.{joins_at, slots_of}
use Rattle.merge_settle.proofs.First.{Looking}
use Rattle.merge_settle.proofs.search.lowest_from.Given as goal

abbrev pub invariant-loop-slot : goal.invariant-loop-slot
invariant-loop-slot l =
    Looking (joins_at l.g l.p l.xs l.ys) (slots_of l.table) l.home l.most l.low (l.home + l.slot-index)
    × (l.slot-index ≤ length l.slot-items)
