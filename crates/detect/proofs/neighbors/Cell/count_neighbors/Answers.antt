-- `detect::neighbors::Cell::count_neighbors` meets its contract: the centre is subtracted if it was counted. Assumes nothing.
use Rattle.std.proofs.Common.{sym, ◌∙◌, arith}
use Rattle.detect.proofs.WindowRows.{centre-in, centre-off, centre-not}
use Rattle.detect.proofs.neighbors.Cell.count_neighbors.Goals as goal

pub overflow_sub-result : goal.overflow_sub-result
overflow_sub-result c =
    omega (arith, centre-in _ _ _ c.count_square-n.ensures (sym c.is_counted.ensures ∙ c.if-is_counted.true))

pub returns-then-is_counted : goal.returns-then-is_counted
returns-then-is_counted c =
    centre-off _ _ _ c.count_square-n.ensures (sym c.is_counted.ensures ∙ c.if-is_counted.true)

pub returns-else-is_counted : goal.returns-else-is_counted
returns-else-is_counted c =
    centre-not _ _ _ c.count_square-n.ensures (sym c.is_counted.ensures ∙ c.if-is_counted.false)
