-- `detect::searched::SearchedMap::skip_cells` meets its contract: the cells passed over are no peaks. Assumes nothing.
use Rattle.std.proofs.Common.{arith}
use Rattle.detect.proofs.Rows.{skipped-none, skipped-cell}
use Rattle.detect.proofs.searched.SearchedMap.skip_cells.Goals as goal

pub loop-column-init : goal.loop-column-init
loop-column-init c = skipped-none _ _ _ _

pub loop-column-preserved : goal.loop-column-preserved
loop-column-preserved c =
    skipped-cell _ _ _ _ _ c.loop-column.invariant (omega arith) c.requires.in_rows.1
    (rw (c.cell.ensures.map, c.cell.ensures.x, c.cell.ensures.y) at (c.may_be_peak.ensures c.if-may_be_peak.false))
