-- `detect::table::number_of` meets its contract: the sides are at most 4,096, and a window has fewer than 2,048 cells. Assumes nothing.
use Rattle.std.proofs.Common.{sym, ◌∙◌}
use Rattle.detect.proofs.FirstPeaks.{numbered}
use Rattle.detect.proofs.table.number_of.Goals as goal

pub returns-in-Some : goal.returns-in-Some
returns-in-Some c = numbered c.in-Some.p (rw c.in-Some.is at c.requires) ∙ sym c.in-Some.is
