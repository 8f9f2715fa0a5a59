use Rattle.std.proofs.Common.{◌+◌, ◌-◌, ◌≤◌}
use Rattle.detect.specs.Internal.{Passed}
use Rattle.detect.proofs.Marks.{Marked}
use Rattle.detect.proofs.searching.cells_passed.Given as goal

abbrev pub invariant-loop-i : goal.invariant-loop-i
invariant-loop-i l = (l.i ≤ 16) × Marked (λ k. Passed l.map l.w l.t l.beside l.exact (l.at + k)) l.i l.marks

abbrev pub decreases-loop-i : goal.decreases-loop-i
decreases-loop-i l = 16 - l.i
