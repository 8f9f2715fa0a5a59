-- `detect::neighbors::Cell::count_square` meets its contract: what is counted and the rows ahead make the count of the square.
-- Assumes nothing.
use Rattle.std.proofs.Common.{◌≡◌, ◌+◌, ◌<◌, ap, ◌∙◌, arith}
use Rattle.lists.specs.Places.{count}
use Rattle.lists.proofs.Rows.{rows_start}
use Rattle.detect.specs.Internal.{is_counted}
use Rattle.detect.proofs.WindowRows.{part, count_next, count_fits, count-all}
use Rattle.detect.proofs.neighbors.Cell.count_square.Goals as goal
use Rattle.detect.proofs.neighbors.Cell.count_square.Goals.{After-count_cells-n}

-- ---- in a turn
module _ (c : After-count_cells-n) where
  -- the row is one of the window's
  ahead : c.loop-row.row < c.args.self.now.y + c.args.self.now.map.search.window + 1
  ahead = omega (arith, c.requires)

  counted : c.count_cells-n.result
      ≡ count (is_counted c.args.asked c.args.self.now.value)
      (part c.args.self.now.map.cells.now c.args.self.now.map.search c.args.self.now.x c.loop-row.row)
  counted =
      c.count_cells-n.ensures ∙ ap (count (is_counted c.args.asked c.args.self.now.value)) (rw c.requires at c.row.ensures)

pub loop-row-init : goal.loop-row-init
loop-row-init c = rw c.requires (rows_start _ _ _ _ _ _ _ _)

pub overflow_add-n : goal.overflow_add-n
overflow_add-n c =
    omega (
      arith,
      count_fits _ _ _ _ _ c.args.self.now.map.searchable c.args.self.now.inside c.args.self.now.read _ (ahead c)
          (is_counted c.args.asked c.args.self.now.value) _ c.loop-row.invariant _ (counted c),
    )

pub loop-row-preserved : goal.loop-row-preserved
loop-row-preserved c =
    let here = goal.at.loop-row-preserved c in
    count_next _ _ _ _ _ c.args.self.now.map.searchable c.args.self.now.inside c.args.self.now.read _ (ahead here.After-count_cells-n)
    (is_counted c.args.asked c.args.self.now.value) _ c.loop-row.invariant _ (counted here.After-count_cells-n)

pub returns : goal.returns
returns c =
    count-all _ _ _ _ _ c.args.self.now.map.searchable c.args.self.now.inside c.args.self.now.read _ (omega (arith, c.requires))
    (is_counted c.args.asked c.args.self.now.value) _ c.loop-row.invariant
