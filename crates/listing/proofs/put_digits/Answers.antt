-- `listing::put_digits` meets its contract. The invariant: the lower digits are written, and the i highest are those of the rest. Assumes
-- nothing.
use native.Mathlib.Omega.{arith}
use Rattle.listing.proofs.Appending.{ahead-next, ahead_none}
use Rattle.listing.proofs.put_digits.Goals as goal

pub loop-i-preserved : goal.loop-i-preserved
loop-i-preserved c =
    ahead-next c.args.base c.args.count c.args.n c.args.at c.args.out.now c.loop-i.i c.loop-i.rest c.loop-i.out c.loop-i.invariant
    c.loop-i-test.true c.digit.result c.digit.ensures

pub returns : goal.returns
returns c =
    ahead_none c.args.base c.args.count c.args.n c.args.at c.args.out.now c.loop-i.i c.loop-i.rest c.loop-i.out
    c.loop-i.invariant (omega arith)
