-- `pgm::header::skip_comments` meets its contract. The invariant: what is left from this place on is what was left at first. Assumes
-- nothing.
use native.Mathlib.Omega.{arith}
use borrow.Author.Tests.{eq-eqb}
use Rattle.pgm.proofs.Scanning.{skipping-next, skipping-ends}
use Rattle.pgm.proofs.header.skip_comments.Goals as goal
use Rattle.pgm.proofs.header.skip_comments.Goals.{else-not-inside-via-then-not-inside+else-c-ne35, else-not-inside-via-else-not-inside}

pub loop-at-preserved : goal.loop-at-preserved
loop-at-preserved c =
    skipping-next _ _ _ _ c.loop-at.invariant c.loop-at-test.true
    (elim c.else-not-inside.branch [
      | else-not-inside-via-then-not-inside+else-c-ne35 w ↦ rw (w.if-not-inside.true, eq-eqb _ 35 w.if-c-ne35.false)
      | else-not-inside-via-else-not-inside w ↦ rw w.if-not-inside.false
    ])
    _ c.goes_on-inside.ensures

pub returns : goal.returns
returns c =
    skipping-ends _ _ _ _ c.loop-at.invariant c.loop-at-test.false c.max.result (omega (arith, c.max.ensures))
    (omega (arith, c.max.ensures))
