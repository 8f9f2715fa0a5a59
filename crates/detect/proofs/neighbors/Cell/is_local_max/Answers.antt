-- `detect::neighbors::Cell::is_local_max` meets its contract: what beats v in the rows ahead is what beats it in all. Assumes nothing.
use Rattle.std.proofs.Common.{◌≡◌, ◌&&◌, ap, ◌∙◌, arith}
use lib.Ieee.{Float, lt}
use Rattle.lists.specs.Places.{any}
use Rattle.lists.proofs.Rows.{any-start}
use Rattle.detect.specs.Peaks.{beats}
use Rattle.detect.proofs.WindowRows.{part, larger-here, larger-next, larger-nowhere}
use Rattle.detect.proofs.neighbors.Cell.is_local_max.Goals as goal
use Rattle.detect.proofs.neighbors.Cell.is_local_max.Goals.{After-any_larger}

found : (c : After-any_larger)
    → c.any_larger.result
    ≡ any (λ u. lt c.args.self.now.value u && lt c.bar_of-bar.result u)
    (part c.args.self.now.map.cells.now c.args.self.now.map.search c.args.self.now.x c.loop-row.row)
found c = c.any_larger.ensures ∙ ap (any (λ (u : Float). lt c.args.self.now.value u && lt c.bar_of-bar.result u)) c.row.ensures

pub loop-row-init : goal.loop-row-init
loop-row-init c = any-start (beats c.args.exact c.args.self.now.value) _ _ _ _ _ _ _

pub returns-then-any_larger : goal.returns-then-any_larger
returns-then-any_larger c =
    larger-here _ _ _ _ _ c.args.self.now.map.searchable c.args.self.now.inside c.args.self.now.read _ c.loop-row-test.true c.args.exact
    _ c.bar_of-bar.ensures c.loop-row.invariant _ (found (goal.at.returns-then-any_larger c).After-any_larger) c.if-any_larger.true

pub loop-row-preserved : goal.loop-row-preserved
loop-row-preserved c =
    larger-next _ _ _ _ _ c.args.self.now.map.searchable c.args.self.now.inside c.args.self.now.read _ c.loop-row-test.true c.args.exact
    _ c.bar_of-bar.ensures c.loop-row.invariant _ (found (goal.at.loop-row-preserved c).After-any_larger) c.if-any_larger.false

pub returns : goal.returns
returns c =
    larger-nowhere _ _ _ _ _ c.args.self.now.map.searchable c.args.self.now.inside c.args.self.now.read _ (omega arith) c.args.exact
    c.loop-row.invariant
