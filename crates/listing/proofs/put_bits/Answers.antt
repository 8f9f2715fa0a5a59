-- `listing::put_bits` meets its contract. Assumes nothing.
use Prim.Native.Nat.{ℕ}
use native.Mathlib.Omega.{arith}
use mathlib.Core.Path.{ap}
use Rattle.listing.specs.Text.{hexadecimal}
use Rattle.listing.specs.Internal.{ended}
use Rattle.listing.proofs.Numbers.{length_digits}
use Rattle.listing.proofs.Appending.{wrote-more, wrote_as, wrote-length}
use Rattle.listing.proofs.put_bits.Goals as goal

pub put-requires : goal.put-requires
put-requires c =
    omega (
      arith,
      c.put_digits-next.ensures.ends,
      wrote-length c.put_digits-next.ensures,
      length_digits 16 8 c.to_bits-bits.result,
    )

pub returns : goal.returns
unfolding hexadecimal
returns c =
    wrote_as (ap (λ (n : ℕ). ended (hexadecimal n) c.args.end)
    c.to_bits-bits.ensures) (wrote-more c.put_digits-next.ensures c.put.ensures)
