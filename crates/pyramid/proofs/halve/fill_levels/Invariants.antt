use Prim.Native.Nat.{◌-◌}
use Rattle.pyramid.proofs.Building.{Reached}
use Rattle.pyramid.proofs.halve.fill_levels.Given as goal

abbrev pub invariant-loop-k : goal.invariant-loop-k
invariant-loop-k l = Reached l.base l.initial.levels l.width l.height l.n (l.k - 1) l.w l.h l.from l.to l.levels
