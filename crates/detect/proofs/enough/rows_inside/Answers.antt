-- `detect::enough::rows_inside` meets its contract, by the width. Assumes nothing.
use Rattle.std.proofs.Common.{le-leb}
use borrow.Author.Tests.{lt-leb}
use Rattle.detect.specs.Enough.{rows_inside}
use Rattle.detect.proofs.enough.rows_inside.Goals as goal

pub returns-then-s-b : goal.returns-then-s-b
unfolding rows_inside
returns-then-s-b c = rw (le-leb _ _ c.if-s-b.true)

pub returns : goal.returns
unfolding rows_inside
returns c = rw (lt-leb _ _ c.if-s-b.false, c.saturating_sub.ensures)
