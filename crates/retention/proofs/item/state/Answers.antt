-- `retention::item::state` meets its contract, return by return. Assumes nothing.
use borrow.Author.Tests.{lt-ltb, le-ltb}
use Rattle.retention.specs.Retention.{state_of}
use Rattle.retention.proofs.item.state.Goals as goal

pub returns-then-time-start : goal.returns-then-time-start
unfolding state_of
returns-then-time-start c = rw (lt-ltb c.args.time c.args.start c.if-time-start.true)

pub returns-then-stays : goal.returns-then-stays
unfolding state_of
returns-then-stays c =
    rw (le-ltb c.args.time c.args.start c.if-time-start.false, ← c.stays.ensures, c.if-stays.true)

pub returns-else-stays : goal.returns-else-stays
unfolding state_of
returns-else-stays c =
    rw (le-ltb c.args.time c.args.start c.if-time-start.false, ← c.stays.ensures, c.if-stays.false)
