-- `center_of_mass::row_sums` meets its contract. Assumes nothing.
use native.Mathlib.Omega.{arith}
use Rattle.center_of_mass.proofs.Window.{one_cell, no_cell, row_small}
use Rattle.center_of_mass.proofs.row_sums.Goals as goal

pub overflow_mul-y : goal.overflow_mul-y
overflow_mul-y c = omega (arith, row_small c.args.y c.args.w c.requires.2 c.requires.1)

pub overflow_add-y : goal.overflow_add-y
overflow_add-y c = omega (arith, row_small c.args.y c.args.w c.requires.2 c.requires.1)

pub offset_bounds-map-y : goal.offset_bounds-map-y
offset_bounds-map-y c = omega (arith, row_small c.args.y c.args.w c.requires.2 c.requires.1)

pub loop-x-preserved : goal.loop-x-preserved
loop-x-preserved c =
    rw c.lifted-weight.ensures
    (one_cell c.args.map.now c.args.w c.args.y c.loop-x.x c.args.x1 c.loop-x.s _ c.loop-x.invariant c.loop-x-test.true)

pub returns : goal.returns
returns c = no_cell c.args.map.now c.args.w c.args.y c.loop-x.x c.args.x1 c.loop-x.s _ c.loop-x.invariant c.loop-x-test.false
