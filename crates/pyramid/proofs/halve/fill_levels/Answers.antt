-- `pyramid::halve::fill_levels` meets its contract: with level k built, levels 1 .. k stand first in the buffer. Assumes nothing.
use Prim.Native.Nat.{◌+◌, ◌-◌, ◌*◌, ◌/◌, ◌≤◌}
use native.Mathlib.Omega.{arith}
use mathlib.Core.Path.{◌≡◌}
use lib.ListN.{length}
use Rattle.pyramid.proofs.Building.{reach-base, reach-all, next_fits, level-ok, reach-next}
use Rattle.pyramid.proofs.halve.fill_levels.Goals as goal
use Rattle.pyramid.proofs.halve.fill_levels.Goals.{In-loop-k}

pub loop-k-init : goal.loop-k-init
loop-k-init c = reach-base _ _ _ _ _

pub halve-requires : goal.halve-requires
halve-requires c =
    level-ok _ _ _ _ _ _ _ _ _ _ _ c.requires.0 c.requires.1 c.loop-k.invariant (omega arith)

-- the next level ends within the buffer
next : (c : In-loop-k)
    → c.loop-k.to + c.loop-k.w / 2 * (c.loop-k.h / 2) ≤ length c.args.levels.now
next c = next_fits _ _ _ _ _ _ _ _ _ _ _ c.requires.0 c.requires.1 c.loop-k.invariant (omega arith)

pub overflow_mul-to : goal.overflow_mul-to
overflow_mul-to c = record { fits = omega (arith, next (goal.at.overflow_mul-to c).In-loop-k, c.well_formed.1.1.1.1.0.0) }

pub overflow_add-to : goal.overflow_add-to
overflow_add-to c = record { fits = omega (arith, next (goal.at.overflow_add-to c).In-loop-k, c.well_formed.1.1.1.1.0.0) }

pub loop-k-preserved : goal.loop-k-preserved
loop-k-preserved c =
    let step : c.loop-k.k + 1 - 1 ≡ c.loop-k.k - 1 + 1 = omega arith in
    rw step
    (reach-next _ _ _ _ _ _ _ _ _ _ _ c.requires.0 c.requires.1 c.loop-k.invariant (omega arith) _
    c.halve.auto.levels c.halve.ensures)

pub shape_of-levels : goal.shape_of-levels
shape_of-levels c = c.loop-k.invariant.long

pub returns : goal.returns
returns c = reach-all _ _ _ _ _ _ _ _ _ _ _ c.loop-k.invariant (omega arith)
