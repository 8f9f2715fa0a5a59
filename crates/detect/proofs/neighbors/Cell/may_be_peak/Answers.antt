-- `detect::neighbors::Cell::may_be_peak` meets its contract: a cell at or below the threshold is no peak, nor is an overtopped one. Assumes
-- nothing.
use Rattle.std.proofs.Common.{sym, ap, ◌∙◌}
use borrow.Author.Tests.{not-false}
use lib.Ieee.{Float, le}
use Rattle.detect.proofs.Passing.{low-peak, beaten-peak}
use Rattle.detect.proofs.neighbors.Cell.may_be_peak.Goals as goal

pub returns-then-self : goal.returns-then-self
returns-then-self c =
    let cell = c.args.self.now in
    λ e. low-peak _ _ cell.map.searchable _ _ cell.inside
    (ap (λ (v : Float). le v cell.map.search.threshold) (sym cell.read) ∙ c.if-self.true)

pub returns : goal.returns
returns c =
    let cell = c.args.self.now in
    λ e. beaten-peak _ _ cell.map.searchable _ _ cell.inside (c.is_overtopped.ensures (not-false _ e))
