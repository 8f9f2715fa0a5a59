-- `listing::digit` meets its contract. Assumes nothing.
use native.Mathlib.Omega.{arith}
use borrow.Author.Tests.{le-ltb}
use Rattle.std.proofs.Common.{rules}
use Rattle.listing.specs.Text.{digit_of}
use Rattle.listing.proofs.digit.Goals as goal

pub returns-then-d-lt10 : goal.returns-then-d-lt10
unfolding digit_of
returns-then-d-lt10 c = search rules

pub returns-else-d-lt10 : goal.returns-else-d-lt10
unfolding digit_of
returns-else-d-lt10 c = rw (le-ltb c.args.d 10 c.if-d-lt10.false) (omega arith)
