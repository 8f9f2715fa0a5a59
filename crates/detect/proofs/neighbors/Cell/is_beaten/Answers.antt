-- `detect::neighbors::Cell::is_beaten` meets its contract, by the window test. Assumes nothing.
use Rattle.std.proofs.Common.{sym, ◌∙◌}
use Rattle.detect.specs.Internal.{place}
use Rattle.detect.proofs.Tested.{lost-not, lost-exactly, lost-plainly}
use Rattle.detect.proofs.neighbors.Cell.is_beaten.Goals as goal

pub returns-then-is_some : goal.returns-then-is_some
returns-then-is_some c =
    lost-not c.args.self.now.map.cells.now c.args.self.now.map.search (place c.args.self.now.x c.args.self.now.y) _ c.requires
    (sym c.is_some.ensures ∙ c.if-is_some.true)

pub returns-then-self : goal.returns-then-self
returns-then-self c =
    lost-exactly c.args.self.now.map.cells.now c.args.self.now.map.search (place c.args.self.now.x c.args.self.now.y) c.if-self.true
    _ c.is_local_max.ensures

pub returns : goal.returns
returns c =
    lost-plainly c.args.self.now.map.cells.now c.args.self.now.map.search (place c.args.self.now.x c.args.self.now.y) c.if-self.false
    _ c.requires (sym c.is_some.ensures ∙ c.if-is_some.false)
