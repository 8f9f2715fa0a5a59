-- `merge_refusal::crowding` meets its contract. Assumes nothing.
use borrow.Author.Tests.{lt-ltb, le-ltb}
use Rattle.merge_refusal.proofs.crowding.Goals as goal

pub returns-then-places-count : goal.returns-then-places-count
returns-then-places-count c = simp (lt-ltb _ _ c.if-places-count.true)

pub returns : goal.returns
returns c = simp (le-ltb _ _ c.if-places-count.false)
