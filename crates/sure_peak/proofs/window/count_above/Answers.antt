-- `sure_peak::window::count_above` meets its contract: what is counted and the count from i on make the whole count. Assumes nothing.
use mathlib.Core.Path.{ap, ◌∙◌}
use mathlib.Core.Bool.{true, false}
use lib.ListN.{get_or}
use lib.IntN.{ℤ, pos}
use lib.Signed.{lt_z}
use mir.Syntax.{w32}
use mir.Val.{to_z, of_z}
use Rattle.lists.specs.Places.{count}
use Rattle.lists.proofs.Scan.{count-start, count-hit, count-miss, count-end}
use Rattle.sure_peak.proofs.Signed.{read, test_read}
use Rattle.sure_peak.proofs.window.count_above.Goals as goal
use Rattle.sure_peak.proofs.window.count_above.Goals.{then-v-cell, else-v-cell}

pub loop-cell-init : goal.loop-cell-init
loop-cell-init c = count-start (lt_z (to_z w32 (of_z w32 c.args.v))) _

pub loop-cell-preserved : goal.loop-cell-preserved
loop-cell-preserved c =
    let v = to_z w32 (of_z w32 c.args.v) in
    let cell = get_or c.args.cells.now c.loop-cell.cell-index (pos 0) in
    elim c.if-v-cell.branch [
      | then-v-cell w ↦ count-hit (lt_z v) _ _ _ c.loop-cell.invariant (pos 0) c.loop-cell-test.true _ w.n-is
          (test_read v cell true c.t10-1.given w.if-v-cell.true)
      | else-v-cell w ↦ count-miss (lt_z v) _ _ _ c.loop-cell.invariant (pos 0) c.loop-cell-test.true _ w.n-is
          (test_read v cell false c.t10-1.given w.if-v-cell.false)
    ]

pub returns : goal.returns
returns c =
    count-end (lt_z (to_z w32 (of_z w32 c.args.v))) _ _ _ c.loop-cell.invariant c.loop-cell-test.false
    ∙ ap (λ (u : ℤ). count (lt_z u) c.args.cells.now) (read c.args.v c.ranges.v.sfits)
