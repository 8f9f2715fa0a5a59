-- The next level has half the sides, the levels below it are summed, and no more levels are counted than there are.
use Prim.Native.Nat.{◌-◌, ◌/◌, ◌≤◌}
use mathlib.Core.Path.{◌≡◌}
use Rattle.pyramid_levels.specs.Levels.{level_side, cells_above, capped}
use Rattle.pyramid_levels.proofs.cells_before.Given as goal

abbrev pub invariant-loop-k : goal.invariant-loop-k
invariant-loop-k l =
    (l._k - 1 ≤ l.n - 1) × (l.w / 2 ≡ level_side l.width l._k) × (l.h / 2 ≡ level_side l.height l._k)
    × (l.sum ≡ capped (cells_above l.width l.height l._k))
