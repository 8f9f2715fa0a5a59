-- `corner_strike::striking::refusal` meets its contract, return by return. Assumes nothing.
use borrow.Author.Tests.{lt-ltb, le-ltb, le-leb, lt-leb, eq-eqb, ne_eqb}
use Rattle.corner_strike.specs.Striking.{refusal_of}
use Rattle.corner_strike.proofs.striking.refusal.Goals as goal

pub returns-then-places-count : goal.returns-then-places-count
unfolding refusal_of
returns-then-places-count c = rw (lt-ltb _ _ c.if-places-count.true)

pub returns-then-shown-change : goal.returns-then-shown-change
unfolding refusal_of
returns-then-shown-change c = rw (le-ltb _ _ c.if-places-count.false, ne_eqb _ _ c.if-shown-change.true)

pub returns-then-count-place : goal.returns-then-count-place
unfolding refusal_of
returns-then-count-place c = rw (le-ltb _ _ c.if-places-count.false, eq-eqb _ _ c.if-shown-change.false, le-leb _ _ c.if-count-place.true)

pub returns-then-change-eq-LARGEST_CHANGE : goal.returns-then-change-eq-LARGEST_CHANGE
unfolding refusal_of
returns-then-change-eq-LARGEST_CHANGE c =
    rw (
      le-ltb _ _ c.if-places-count.false,
      eq-eqb _ _ c.if-shown-change.false,
      lt-leb _ _ c.if-count-place.false,
      eq-eqb _ _ c.if-change-eq-LARGEST_CHANGE.true,
    )

pub returns : goal.returns
unfolding refusal_of
returns c =
    rw (
      le-ltb _ _ c.if-places-count.false,
      eq-eqb _ _ c.if-shown-change.false,
      lt-leb _ _ c.if-count-place.false,
      ne_eqb _ _ c.if-change-eq-LARGEST_CHANGE.false,
    )
