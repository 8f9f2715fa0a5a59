-- `detect::searched::SearchedMap::is_low_row` meets its contract: as many cells are low as there are. Assumes nothing.
use Rattle.std.proofs.Common.{ap, ◌∙◌, arith, leb-true}
use Rattle.lists.specs.Places.{count}
use Rattle.detect.specs.Peaks.{is_low}
use Rattle.detect.proofs.Cells.{row_in}
use Rattle.detect.proofs.Rows.{low-row}
use Rattle.detect.proofs.searched.SearchedMap.is_low_row.Goals as goal

pub returns : goal.returns
returns c =
    λ e.
    low-row _ _ _ _ (omega arith) (row_in _ _ c.args.self.now.searchable _ (omega arith) _ (omega arith))
    (c.count_low.ensures ∙ ap (count (is_low c.args.self.now.search.threshold)) c.row.ensures) (leb-true _ _ e)
