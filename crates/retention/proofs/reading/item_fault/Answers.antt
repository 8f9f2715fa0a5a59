-- `retention::reading::item_fault` meets its contract. Assumes nothing.
use mathlib.Core.Path.{ap, ◌∙◌}
use Rattle.lists.specs.Refusals.{verdict}
use Rattle.retention.proofs.Passing.{fault-is}
use Rattle.retention.proofs.reading.item_fault.Goals as goal

pub returns-then-k-eq0 : goal.returns-then-k-eq0
returns-then-k-eq0 c = rw c.if-k-eq0.true c.time_fault.ensures

pub returns : goal.returns
returns c = c.record_fault.ensures ∙ ap verdict (fault-is _ _ c.if-k-eq0.false)
