-- `detect::searched::SearchedMap::next_peak` meets its contract: the places passed over are no peaks. Assumes nothing.
use Rattle.std.proofs.Common.{◌≡◌, ◌+◌, arith}
use Rattle.detect.specs.Internal.{place, peak_test}
use Rattle.detect.proofs.Scanning.{Passed, passed_none, passed-skip, passed-inside, passed-cell, passed-peak}
use Rattle.detect.proofs.Scanning.{passed-row, passed-all}
use Rattle.detect.proofs.Rows.{low-none, low-fewer, low-more}
use Rattle.detect.proofs.searched.SearchedMap.next_peak.Goals as goal
use Rattle.detect.proofs.searched.SearchedMap.next_peak.Goals.{After-skip-x, After-peak_test, Else-x-x1}

-- where the search stands after the cells that it skips
after-skip : (c : After-skip-x)
    → Passed c.args.self.now.cells.now c.args.self.now.search (place c.args.x c.args.y) (place c.skip-x.result c.loop-y.y)
after-skip c = passed-skip _ _ _ _ _ c.loop-y.invariant.0 _ c.skip-x.ensures

-- what the cell there is
tested : (c : After-peak_test) → c.peak_test.result
    ≡ peak_test c.args.self.now.cells.now c.args.self.now.search (place c.skip-x.result c.loop-y.y)
tested c = rw (c.cell.ensures.map, c.cell.ensures.x, c.cell.ensures.y) at c.peak_test.ensures

-- at the end of a row
row_done : (c : Else-x-x1)
    → Passed c.args.self.now.cells.now c.args.self.now.search (place c.args.x c.args.y)
    (place c.args.self.now.search.border (c.loop-y.y + 1))
row_done c = passed-row _ _ _ _ _ (after-skip (goal.at.Else-x-x1 c).After-skip-x) (omega arith) (omega arith)

pub returns-then-y1-y : goal.returns-then-y1-y
returns-then-y1-y c = passed-all _ _ _ _ _ (passed_none _ _ _ c.requires.0 c.requires.1) (omega arith)

pub loop-y-init : goal.loop-y-init
loop-y-init c = (passed_none _ _ _ c.requires.0 c.requires.1, low-none _ _ _ _ (omega arith))

pub skip-x-requires : goal.skip-x-requires
skip-x-requires c =
    record {
      in_rows = (c.loop-y.invariant.0.top, omega arith);
      in_columns = c.loop-y.invariant.0.left;
      low_rows = low-fewer _ _ _ _ _ c.loop-y.invariant.1 (omega arith);
    }

pub cell-requires : goal.cell-requires
cell-requires c = passed-inside _ _ _ _ _ (after-skip (goal.at.cell-requires c).After-skip-x) (omega arith) (omega arith)

pub returns-in-Some : goal.returns-in-Some
returns-in-Some c =
    let here = goal.at.returns-in-Some c in
    passed-peak _ _ _ _ _ (after-skip here.After-skip-x) (omega arith) (omega arith) _ (tested here.After-peak_test) _ c.in-Some.is

pub loop-y-preserved-then-x-x1 : goal.loop-y-preserved-then-x-x1
loop-y-preserved-then-x-x1 c =
    let here = goal.at.loop-y-preserved-then-x-x1 c in (
      passed-cell _ _ _ _ _ (after-skip here.After-skip-x) (omega arith) (omega arith) _ (tested here.After-peak_test) c.in_default.is,
      c.loop-y.invariant.1,
    )

pub loop-y-preserved-then-not-is_low_row : goal.loop-y-preserved-then-not-is_low_row
loop-y-preserved-then-not-is_low_row c =
    (row_done (goal.at.loop-y-preserved-then-not-is_low_row c).Else-x-x1, low-none _ _ _ _ (omega arith))

pub loop-y-preserved : goal.loop-y-preserved
loop-y-preserved c = (
  row_done (goal.at.loop-y-preserved c).Else-x-x1,
  low-more _ _ _ _ _ (omega arith) c.loop-y.invariant.1 (c.is_low_row.ensures c.if-not-is_low_row.false),
)

pub returns : goal.returns
returns c = passed-all _ _ _ _ _ c.loop-y.invariant.0 (omega arith)
