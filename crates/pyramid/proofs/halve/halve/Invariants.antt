use Prim.Native.Nat.{◌+◌, ◌*◌, ◌/◌}
use mathlib.Core.Path.{◌≡◌}
use lib.ListN.{length}
use Rattle.pyramid.specs.Internal.{LevelHalved}
use Rattle.pyramid.proofs.halve.halve.Given as goal

abbrev pub invariant-loop-y : goal.invariant-loop-y
invariant-loop-y l =
    (length l.levels ≡ length l.initial.levels) × (l.a ≡ l.from + 2 * l._y * l.w) × (l.at ≡ l.to + l._y * (l.w / 2))
    × LevelHalved l.base l.initial.levels l.k l.from l.w l.to l._y l.levels
