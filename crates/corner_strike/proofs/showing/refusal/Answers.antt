-- `corner_strike::showing::refusal` meets its contract, return by return. Assumes nothing.
use borrow.Author.Tests.{lt-ltb, le-ltb, le-leb, lt-leb}
use Rattle.corner_strike.specs.Showing.{refusal_of}
use Rattle.corner_strike.proofs.showing.refusal.Goals as goal

pub returns-then-places-count : goal.returns-then-places-count
unfolding refusal_of
returns-then-places-count c = rw (lt-ltb _ _ c.if-places-count.true)

pub returns-then-count-place : goal.returns-then-count-place
unfolding refusal_of
returns-then-count-place c = rw (le-ltb _ _ c.if-places-count.false, le-leb _ _ c.if-count-place.true)

pub returns : goal.returns
unfolding refusal_of
returns c = rw (le-ltb _ _ c.if-places-count.false, lt-leb _ _ c.if-count-place.false)
