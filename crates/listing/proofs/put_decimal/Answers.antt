-- `listing::put_decimal` meets its contract. Assumes nothing.
use Prim.Native.Nat.{ℕ}
use native.Mathlib.Omega.{arith}
use mathlib.Core.Path.{ap}
use Rattle.listing.specs.Text.{digits, decimal}
use Rattle.listing.specs.Internal.{ended}
use Rattle.listing.proofs.Numbers.{length_digits}
use Rattle.listing.proofs.Appending.{wrote-more, wrote_as, wrote-length}
use Rattle.listing.proofs.put_decimal.Goals as goal

pub put-requires : goal.put-requires
put-requires c =
    omega (
      arith,
      c.put_digits-next.ensures.ends,
      wrote-length c.put_digits-next.ensures,
      length_digits 10 c.decimal_places-count.result c.args.n,
      c.decimal_places-count.ensures,
    )

pub returns : goal.returns
unfolding decimal
returns c =
    wrote_as (ap (λ (k : ℕ). ended (digits 10 k c.args.n) c.args.end) c.decimal_places-count.ensures)
    (wrote-more c.put_digits-next.ensures c.put.ensures)
