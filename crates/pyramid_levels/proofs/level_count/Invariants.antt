-- The levels counted, and those still to come above the last of them, are all.
use Prim.Native.Nat.{◌+◌, ◌-◌}
use mathlib.Core.Path.{◌≡◌}
use Rattle.pyramid_levels.specs.Levels.{halvings, level_count}
use Rattle.pyramid_levels.proofs.level_count.Given as goal

abbrev pub invariant-loop-n : goal.invariant-loop-n
invariant-loop-n l = level_count l.width l.height l.num_levels l.min_size ≡ l.n + halvings (l.most - l.n) l.w l.h l.min_size
