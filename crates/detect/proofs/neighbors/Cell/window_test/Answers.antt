-- `detect::neighbors::Cell::window_test` meets its contract: beaten, alone, or top with the cells counted. Assumes nothing.
use Rattle.std.proofs.Common.{◌∙◌}
use Rattle.detect.specs.Internal.{place}
use Rattle.detect.proofs.WindowRows.{equals-are}
use Rattle.detect.proofs.Ties.{test-top, test-beaten}
use Rattle.detect.proofs.neighbors.Cell.window_test.Goals as goal

pub returns-then-is_topped : goal.returns-then-is_topped
returns-then-is_topped c = c.is_topped.ensures c.if-is_topped.true

pub returns-then-is_alone : goal.returns-then-is_alone
returns-then-is_alone c = c.is_alone.ensures c.if-is_alone.true

pub returns-then-is_local_max : goal.returns-then-is_local_max
returns-then-is_local_max c =
    test-top c.args.self.now.map.cells.now c.args.self.now.map.search
    (place c.args.self.now.x c.args.self.now.y) _ c.is_local_max.ensures c.if-is_local_max.true
    _ (c.count_neighbors.ensures ∙ equals-are _ _ _ _ _ c.args.self.now.map.searchable c.args.self.now.inside c.args.self.now.read)

pub returns : goal.returns
returns c =
    test-beaten c.args.self.now.map.cells.now c.args.self.now.map.search
    (place c.args.self.now.x c.args.self.now.y) _ c.is_local_max.ensures c.if-is_local_max.false
