-- The buffer keeps its length, and the half-size pixels before column x are placed.
use Prim.Native.Nat.{min}
use mathlib.Core.Path.{◌≡◌}
use lib.ListN.{length}
use Rattle.pyramid.specs.Internal.{RowHalved}
use Rattle.pyramid.proofs.halve.halve_rows.Given as goal

abbrev pub invariant-loop-x : goal.invariant-loop-x
invariant-loop-x l =
    (length l.levels ≡ length l.initial.levels) × RowHalved l.base l.initial.levels l.k l.from l.w l.to (min l.x l.n) l.levels
