-- `pyramid::halve::halve` meets its contract: after y rows their half-size pixels are placed. Assumes nothing.
use Prim.Native.Nat.{◌+◌, ◌*◌, ◌/◌, ◌^◌, ◌<◌, ◌≤◌}
use native.Mathlib.Nat.{suc-mul}
use native.Mathlib.Omega.{arith}
use mathlib.Core.Path.{◌≡◌, refl}
use lib.ListN.{length}
use borrow.Author.Rules.{rules}
use Rattle.pyramid.specs.Internal.{holder_of}
use Rattle.pyramid.proofs.Halving.{holder-short, level-none, row_below, row-end, row_ok, row_more}
use Rattle.pyramid.proofs.halve.halve.Goals as goal
use Rattle.pyramid.proofs.halve.halve.Goals.{In-loop-y}

pub loop-y-init : goal.loop-y-init
loop-y-init c = (refl, omega arith, omega arith, level-none _ _ _ _ _ _)

-- row y ends within the level, and within the new one
below : (c : In-loop-y)
    → c.loop-y.a + 2 * c.args.w ≤ c.args.from + c.args.w * c.args.h
below c = row_below _ _ _ _ _ c.loop-y-test.true c.loop-y.invariant.1

ends : (c : In-loop-y)
    → c.loop-y.at + c.args.w / 2 ≤ c.args.to + c.args.w / 2 * (c.args.h / 2)
ends c = row-end _ _ _ _ _ c.loop-y-test.true c.loop-y.invariant.2

short : (c : In-loop-y)
    → length (holder_of c.args.base.now c.args.levels.now c.args.k) < 2 ^ 64
short c = holder-short _ _ c.args.k _ c.well_formed.0.0 c.well_formed.1.1.1.1.1.0.0

pub halve_rows-requires : goal.halve_rows-requires
halve_rows-requires c =
    row_ok _ _ _ _ _ _ _ c.requires _ _ _ _ c.loop-y.invariant.0
    c.loop-y-test.true c.loop-y.invariant.1 c.loop-y.invariant.2

pub overflow_mul-a : goal.overflow_mul-a
overflow_mul-a c =
    record {
      fits =
          omega (arith, below (goal.at.overflow_mul-a c).In-loop-y, short (goal.at.overflow_mul-a c).In-loop-y, c.requires.inside);
    }

pub overflow_add-a : goal.overflow_add-a
overflow_add-a c =
    record {
      fits =
          omega (arith, below (goal.at.overflow_add-a c).In-loop-y, short (goal.at.overflow_add-a c).In-loop-y, c.requires.inside);
    }

pub overflow_add-at : goal.overflow_add-at
overflow_add-at c =
    record { fits = omega (arith, ends (goal.at.overflow_add-at c).In-loop-y, c.well_formed.1.1.1.1.1.0.0, c.requires.fits) }

pub loop-y-preserved : goal.loop-y-preserved
loop-y-preserved c = (
  search rules,
  omega (arith, c.loop-y.invariant.1),
  omega (arith, c.loop-y.invariant.2, suc-mul c.loop-y._y (c.args.w / 2)),
  row_more _ _ _ _ _ _ _ c.requires _ _ _ _ c.loop-y.invariant.0 c.loop-y-test.true c.loop-y.invariant.1 c.loop-y.invariant.2 _
      c.loop-y.invariant.3
      c.halve_rows.ensures,
)

pub returns : goal.returns
returns c = let e : c.loop-y._y ≡ c.args.h / 2 = omega arith in rw e at c.loop-y.invariant.3
