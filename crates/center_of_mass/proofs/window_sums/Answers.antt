-- `center_of_mass::window_sums` meets its contract: the sums with the rows that are left stay the same. Assumes nothing.
use mathlib.Core.Path.{refl}
use native.Mathlib.Omega.{arith}
use lib.Ieee.{of_bits}
use Rattle.center_of_mass.proofs.Window.{one-row, no_row, row_in}
use Rattle.center_of_mass.proofs.window_sums.Goals as goal

pub loop-y-init : goal.loop-y-init
unfolding of_bits
loop-y-init c = refl

pub row_sums-s-requires : goal.row_sums-s-requires
row_sums-s-requires c = (
  omega arith,
  omega arith,
  omega arith,
  row_in c.loop-y.y c.args.y1 c.args.w _ c.loop-y-test.true c.requires.3,
)

pub loop-y-preserved : goal.loop-y-preserved
loop-y-preserved c =
    one-row c.args.map.now c.args.w c.args.x0 c.args.x1 c.loop-y.y c.args.y1 c.loop-y.s _ c.loop-y.invariant c.row_sums-s.result
    c.loop-y-test.true c.row_sums-s.ensures

pub returns : goal.returns
returns c =
    no_row c.args.map.now c.args.w c.args.x0 c.args.x1 c.loop-y.y c.args.y1 c.loop-y.s _ c.loop-y.invariant c.loop-y-test.false
