-- `listing::decimal_places` meets its contract. Assumes nothing.
use native.Mathlib.Omega.{arith}
use mathlib.Core.Path.{sym}
use Rattle.listing.proofs.Numbers.{places-tens, places-one}
use Rattle.listing.proofs.decimal_places.Goals as goal

pub returns-in-Some : goal.returns-in-Some
returns-in-Some c =
    let known = c.in-Some.ensures in
    sym (places-tens c.in-Some.tens c.args.n c.args.n (omega arith) known.power_le known.next_power_gt)

pub returns-in-None : goal.returns-in-None
returns-in-None c = let none = c.in-None.ensures.none in sym (places-one c.args.n c.args.n (omega arith))
