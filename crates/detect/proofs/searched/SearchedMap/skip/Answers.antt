-- `detect::searched::SearchedMap::skip` meets its contract: cells are passed over run by run, and at the end of the row cell by cell.
-- Assumes nothing.
use Rattle.std.proofs.Common.{arith}
use Rattle.detect.proofs.Rows.{skipped-none, skipped-on, skipped-low}
use Rattle.detect.proofs.searched.SearchedMap.skip.Goals as goal

pub returns-then-x1-x : goal.returns-then-x1-x
returns-then-x1-x c = skipped-none _ _ _ _

pub returns-then-low-y : goal.returns-then-low-y
returns-then-low-y c =
    skipped-low _ _ _ _ _ c.right-x1.ensures (omega arith) c.requires.in_rows.1 c.requires.in_columns
    (c.requires.low_rows _ c.if-low-y.true (omega arith))

pub returns : goal.returns
returns c = skipped-on _ _ _ _ _ c.skip_runs-r.ensures.0 _ c.skip_cells.ensures
