-- `detect::neighbors::count_cells` meets its contract: what is counted and the count from i on make the whole count. Assumes nothing.
use Rattle.std.proofs.Common.{sym, ◌∙◌}
use Rattle.lists.proofs.Scan.{count-start, count-hit, count-miss, count-end}
use Rattle.detect.specs.Internal.{is_counted}
use Rattle.detect.proofs.neighbors.count_cells.Goals as goal
use Rattle.detect.proofs.neighbors.count_cells.Goals.{then-is_counted, else-is_counted}

pub loop-u-init : goal.loop-u-init
loop-u-init c = count-start (is_counted c.args.asked c.args.v) _

pub loop-u-preserved : goal.loop-u-preserved
loop-u-preserved c =
    let f = is_counted c.args.asked c.args.v in
    elim c.if-is_counted.branch [
      | then-is_counted w ↦ count-hit f _ _ _ c.loop-u.invariant _ c.loop-u-test.true _ w.n-is
          (sym c.is_counted.ensures ∙ w.if-is_counted.true)
      | else-is_counted w ↦ count-miss f _ _ _ c.loop-u.invariant _ c.loop-u-test.true _ w.n-is
          (sym c.is_counted.ensures ∙ w.if-is_counted.false)
    ]

pub returns : goal.returns
returns c = count-end (is_counted c.args.asked c.args.v) _ _ _ c.loop-u.invariant c.loop-u-test.false
