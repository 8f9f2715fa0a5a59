-- `detect::searched::SearchedMap::cells_above` meets its contract: a peak is not at or below the threshold. Assumes nothing.
use Rattle.std.proofs.Common.{◌≡◌, ap, ◌∙◌, arith}
use Rattle.lists.specs.Places.{count}
use Rattle.lists.proofs.Rows.{row_part, rows_start}
use Rattle.detect.specs.Peaks.{is_low}
use Rattle.detect.proofs.Above.{high-some, high-next, high-few, high-all, high-none}
use Rattle.detect.proofs.searched.SearchedMap.cells_above.Goals as goal
use Rattle.detect.proofs.searched.SearchedMap.cells_above.Goals.{After-count_low}

low : (c : After-count_low) → c.count_low.result
    ≡ count (is_low c.args.self.now.search.threshold)
    (row_part c.args.self.now.cells.now c.args.self.now.search.w c.loop-y.y c.args.self.now.search.border c.right-x1.result)
low c = c.count_low.ensures ∙ ap (count (is_low c.args.self.now.search.threshold)) c.row.ensures

pub returns-then-x1-x0 : goal.returns-then-x1-x0
returns-then-x1-x0 c = high-none c.args.self.now.cells.now c.args.self.now.search (omega arith)

pub loop-y-init : goal.loop-y-init
loop-y-init c = rows_start _ _ _ _ _ _ _ _

pub overflow_sub-n-in-loop-y : goal.overflow_sub-n-in-loop-y
overflow_sub-n-in-loop-y c =
    high-some _ c.args.self.now.search c.args.self.now.searchable (omega arith) _ _ c.loop-y.invariant (omega arith) _ c.right-x1.ensures
    _ (low c)

pub overflow_add-n : goal.overflow_add-n
overflow_add-n c =
    omega (
      arith,
      high-few _ c.args.self.now.search c.args.self.now.searchable (omega arith) _ _ c.loop-y.invariant (omega arith) _ c.right-x1.ensures
          _ (low (goal.at.overflow_add-n c).After-count_low),
    )

pub loop-y-preserved : goal.loop-y-preserved
loop-y-preserved c =
    high-next _ c.args.self.now.search c.args.self.now.searchable (omega arith) _ _ c.loop-y.invariant (omega arith) _ c.right-x1.ensures
    _ (low (goal.at.loop-y-preserved c).After-count_low)

pub returns : goal.returns
returns c = high-all c.args.self.now.cells.now c.args.self.now.search _ _ c.loop-y.invariant (omega arith)
