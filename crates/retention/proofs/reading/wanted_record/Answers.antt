-- `retention::reading::wanted_record` meets its contract, return by return. Assumes nothing.
use borrow.Author.Tests.{le-leb, lt-leb, not-true, not-false}
use Rattle.retention.specs.Wanted.{wanted_record}
use Rattle.retention.proofs.reading.wanted_record.Goals as goal

pub returns-then-input-at : goal.returns-then-input-at
unfolding wanted_record
returns-then-input-at c = rw (le-leb _ _ c.if-input-at.true)

pub returns-then-not-is_known : goal.returns-then-not-is_known
unfolding wanted_record
returns-then-not-is_known c =
    rw (
      lt-leb _ _ c.if-input-at.false,
      ← c.is_known.ensures,
      not-true c.is_known.result c.if-not-is_known.true-raw,
    )

pub returns : goal.returns
unfolding wanted_record
returns c =
    rw (
      lt-leb _ _ c.if-input-at.false,
      ← c.is_known.ensures,
      not-false c.is_known.result c.if-not-is_known.false-raw,
    )
    c.saturating_sub.ensures
