-- `listing::put_heading` meets its contract. Assumes nothing.
use native.Mathlib.Omega.{arith}
use Rattle.listing.proofs.Numbers.{places-word}
use Rattle.listing.proofs.Appending.{wrote-length, wrote-more}
use Rattle.listing.proofs.put_heading.Goals as goal

pub put_decimal-requires : goal.put_decimal-requires
put_decimal-requires c =
    omega (
      arith,
      c.put_word-at.ensures.ends,
      wrote-length c.put_word-at.ensures,
      c.requires,
      places-word c.args.n c.ranges.n.fits,
    )

pub returns : goal.returns
returns c =
    wrote-more c.put_word-at.ensures c.put_decimal.ensures
