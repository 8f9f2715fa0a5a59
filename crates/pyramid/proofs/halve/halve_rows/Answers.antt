-- `pyramid::halve::halve_rows` meets its contract: after x columns their half-size pixels are placed. Assumes nothing.
use Prim.Native.Nat.{min, ◌+◌, ◌*◌, ◌/◌, ◌^◌, ◌<◌}
use native.Mathlib.Omega.{arith}
use mathlib.Core.Path.{◌≡◌, refl}
use lib.ListN.{length}
use borrow.Author.Rules.{rules}
use Rattle.pyramid.specs.Internal.{holder_of, Run}
use Rattle.pyramid.proofs.Halving.{holder-short, row-none, run_ok, row_put}
use Rattle.pyramid.proofs.halve.halve_rows.Goals as goal
use Rattle.pyramid.proofs.halve.halve_rows.Goals.{After-min-m}

pub loop-x-init : goal.loop-x-init
loop-x-init c = let none : min 0 (c.args.w / 2) ≡ 0 = omega arith in (refl, rw none (row-none _ _ _ _ _ _))

-- the columns before the run, and with it
before : (c : After-min-m) → min c.loop-x.x (c.args.w / 2) ≡ c.loop-x.x
before c = omega (arith, c.loop-x-test.true)

ends : (c : After-min-m) → c.loop-x.x + c.min-m.result ≡ min (c.loop-x.x + 16) (c.args.w / 2)
ends c = omega (arith, c.min-m.ensures, c.loop-x-test.true)

-- its columns lie in the two rows, and there is a place for it
ready : (c : After-min-m)
    → Run c.args.base.now c.loop-x.levels c.args.k
    (c.args.from + 2 * c.loop-x.x) c.args.w
    (c.args.to + c.loop-x.x) c.min-m.result
ready c =
    run_ok _ _ _ _ _ _ c.requires _ _ _ c.loop-x.invariant.0 (omega (arith, ends c)) (omega (arith, c.min-m.ensures))

short : (c : After-min-m)
    → length (holder_of c.args.base.now c.loop-x.levels c.args.k) < 2 ^ 64
short c =
    holder-short _ _ c.args.k _ c.well_formed.0.0
    (omega (arith, c.loop-x.invariant.0, c.well_formed.1.1.1.1.0.0))

pub overflow_add-from : goal.overflow_add-from
overflow_add-from c = omega (arith, short c, (ready c).inside)

pub overflow_add-to : goal.overflow_add-to
overflow_add-to c =
    omega (arith, (ready (goal.at.overflow_add-to c).After-min-m).fits, c.loop-x.invariant.0, c.well_formed.1.1.1.1.0.0)

pub halve_run-requires : goal.halve_run-requires
halve_run-requires c = ready (goal.at.halve_run-requires c).After-min-m

pub loop-x-preserved : goal.loop-x-preserved
loop-x-preserved c =
    let here = (goal.at.loop-x-preserved c).After-min-m in (
      search rules,
      rw (← ends here)
          (row_put _ _ _ _ _ _ c.requires _ _ _ _ (rw (before here) at c.loop-x.invariant.1)
          (omega (arith, ends here)) c.halve_run.ensures),
    )

pub returns : goal.returns
returns c = let all : min c.loop-x.x (c.args.w / 2) ≡ c.args.w / 2 = omega arith in rw all at c.loop-x.invariant.1

-- the loop is left where no more than a run is left
pub returns-2 : goal.returns-2
returns-2 c =
    let here = (goal.at.returns-2 c).After-min-m in
    let all : c.loop-x.x + c.min-m.result ≡ c.args.w / 2 = omega (arith, ends here) in
    rw all at
    (row_put _ _ _ _ _ _ c.requires _ _ _ _ (rw (before here) at c.loop-x.invariant.1) (omega (arith, ends here)) c.halve_run.ensures)
