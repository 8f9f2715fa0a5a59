-- `detect::neighbors::Cell::peak_test` meets its contract, test by test. Assumes nothing.
use Rattle.std.proofs.Common.{◌≡◌, refl, ap, ◌∙◌, arith}
use Rattle.detect.specs.Peaks.{ties_of}
use Rattle.detect.specs.Detect.{neighbours_at}
use Rattle.detect.specs.Internal.{place}
use Rattle.detect.proofs.WindowRows.{positives-are}
use Rattle.detect.proofs.Tested.{tested_low, tested-beaten, tested-few, tested-peak}
use Rattle.detect.proofs.neighbors.Cell.peak_test.Goals as goal
use Rattle.detect.proofs.neighbors.Cell.peak_test.Goals.{After-count_neighbors-neighbours, then-self-via-then-self}
use Rattle.detect.proofs.neighbors.Cell.peak_test.Goals.{then-self-via-else-self+then-has_few}

-- what was counted
neighbours : (c : After-count_neighbors-neighbours) → c.count_neighbors-neighbours.result
    ≡ neighbours_at c.args.self.now.map.cells.now c.args.self.now.map.search (place c.args.self.now.x c.args.self.now.y)
neighbours c =
    c.count_neighbors-neighbours.ensures
    ∙ positives-are _ _ _ _ _ c.args.self.now.map.searchable c.args.self.now.inside c.args.self.now.read

pub returns-then-self : goal.returns-then-self
returns-then-self c =
    elim c.then-self.branch [
      | then-self-via-then-self w ↦
          tested_low c.args.self.now.map.cells.now c.args.self.now.map.search (place c.args.self.now.x c.args.self.now.y)
          _ c.args.self.now.read w.if-self.true
      | then-self-via-else-self+then-has_few w ↦
          tested-few c.args.self.now.map.cells.now c.args.self.now.map.search (place c.args.self.now.x c.args.self.now.y)
          _ c.args.self.now.read _ refl (w.has_few.ensures w.if-has_few.true)
    ]

pub returns-then-is_beaten : goal.returns-then-is_beaten
returns-then-is_beaten c =
    tested-beaten c.args.self.now.map.cells.now c.args.self.now.map.search (place c.args.self.now.x c.args.self.now.y)
    _ c.args.self.now.read _ c.is_beaten.ensures c.if-is_beaten.true

pub returns-then-neighbours-self : goal.returns-then-neighbours-self
returns-then-neighbours-self c =
    tested-few c.args.self.now.map.cells.now c.args.self.now.map.search (place c.args.self.now.x c.args.self.now.y)
    _ c.args.self.now.read _ (neighbours (goal.at.returns-then-neighbours-self c).After-count_neighbors-neighbours) (omega arith)

pub returns : goal.returns
returns c =
    tested-peak c.args.self.now.map.cells.now c.args.self.now.map.search (place c.args.self.now.x c.args.self.now.y)
    _ c.args.self.now.read _ (neighbours (goal.at.returns c).After-count_neighbors-neighbours)
    c.if-self.false (omega arith) _ c.is_beaten.ensures c.if-is_beaten.false
    _ (c.unwrap_or.ensures ∙ ap ties_of c.window_test-t.ensures)
