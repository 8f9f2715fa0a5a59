-- `detect::searching::count_low` meets its contract: what is counted and the count from i on make the whole count. Assumes nothing.
use Rattle.lists.proofs.Scan.{count-start, count-hit, count-miss, count-end}
use Rattle.detect.specs.Peaks.{is_low}
use Rattle.detect.proofs.searching.count_low.Goals as goal
use Rattle.detect.proofs.searching.count_low.Goals.{then-cell-t, else-cell-t}

pub loop-cell-init : goal.loop-cell-init
loop-cell-init c = count-start (is_low c.args.t) _

pub loop-cell-preserved : goal.loop-cell-preserved
loop-cell-preserved c =
    elim c.if-cell-t.branch [
      | then-cell-t w ↦ count-hit (is_low c.args.t) _ _ _ c.loop-cell.invariant _ c.loop-cell-test.true _ w.n-is w.if-cell-t.true
      | else-cell-t w ↦ count-miss (is_low c.args.t) _ _ _ c.loop-cell.invariant _ c.loop-cell-test.true _ w.n-is w.if-cell-t.false
    ]

pub returns : goal.returns
returns c = count-end (is_low c.args.t) _ _ _ c.loop-cell.invariant c.loop-cell-test.false
