-- `listing::put_line` meets its contract, column by column. Assumes nothing.
use Prim.Native.Nat.{ℕ, ◌+◌, ◌^◌, ◌<◌, ◌≤◌}
use native.Mathlib.Omega.{arith}
use mathlib.Core.Path.{ap}
use lib.ListN.{length}
use lib.Ieee.{binary32, to_bits}
use Rattle.listing.specs.Text.{decimal, space}
use Rattle.listing.specs.Internal.{ended}
use Rattle.listing.proofs.Numbers.{places-word, places-half-word}
use Rattle.listing.proofs.Appending.{wrote-more, wrote_as, wrote-leaves}
use Rattle.listing.proofs.Lines.{decimal-ended, bits-ended}
use Rattle.listing.proofs.put_line.Goals as goal
use Rattle.listing.proofs.put_line.Goals.{After-put_bits-behind_strength, After-put_bits-behind_x_bits, After-put_bits-behind_y_bits}
use Rattle.listing.proofs.put_line.Goals.{After-put_decimal-behind_x, After-put_decimal-behind_y}

pub put_decimal-behind_x-requires : goal.put_decimal-behind_x-requires
put_decimal-behind_x-requires c =
    let word : c.units.result < 2 ^ 64 = omega arith in
    omega (arith, c.requires, places-word c.units.result word)

-- what is left of the 80 bytes behind each column
behind-x : (c : After-put_decimal-behind_x) → c.put_decimal-behind_x.result + 59 ≤ length c.put_decimal-behind_x.new.out
behind-x c =
    let word : c.units.result < 2 ^ 64 = omega arith in
    wrote-leaves c.put_decimal-behind_x.ensures 21 59 (decimal-ended c.units.result space word) c.requires

behind-y : (c : After-put_decimal-behind_y) → c.put_decimal-behind_y.result + 38 ≤ length c.put_decimal-behind_y.new.out
behind-y c =
    let word : c.units-2.result < 2 ^ 64 = omega arith in
    wrote-leaves c.put_decimal-behind_y.ensures 21 38 (decimal-ended c.units-2.result space word)
    (behind-x c.before.before.before.before.before)

behind-x-bits : (c : After-put_bits-behind_x_bits) → c.put_bits-behind_x_bits.result + 29 ≤ length c.put_bits-behind_x_bits.new.out
behind-x-bits c =
    wrote-leaves c.put_bits-behind_x_bits.ensures 9 29 (bits-ended (to_bits binary32 c.args.c.x) space)
    (behind-y c.before.before.before.before)

behind-y-bits : (c : After-put_bits-behind_y_bits) → c.put_bits-behind_y_bits.result + 20 ≤ length c.put_bits-behind_y_bits.new.out
behind-y-bits c =
    wrote-leaves c.put_bits-behind_y_bits.ensures 9 20 (bits-ended (to_bits binary32 c.args.c.y) space)
    (behind-x-bits c.before.before.before.before)

behind-strength : (c : After-put_bits-behind_strength) → c.put_bits-behind_strength.result + 11 ≤ length c.put_bits-behind_strength.new.out
behind-strength c =
    wrote-leaves c.put_bits-behind_strength.ensures 9 11 (bits-ended (to_bits binary32 c.args.c.strength) space)
    (behind-y-bits c.before.before.before.before)

pub put_decimal-behind_y-requires : goal.put_decimal-behind_y-requires
put_decimal-behind_y-requires c =
    let word : c.units-2.result < 2 ^ 64 = omega arith in
    omega (arith, behind-x (goal.at.put_decimal-behind_y-requires c).After-put_decimal-behind_x, places-word c.units-2.result word)

pub put_bits-behind_x_bits-requires : goal.put_bits-behind_x_bits-requires
put_bits-behind_x_bits-requires c = omega (arith, behind-y (goal.at.put_bits-behind_x_bits-requires c).After-put_decimal-behind_y)

pub put_bits-behind_y_bits-requires : goal.put_bits-behind_y_bits-requires
put_bits-behind_y_bits-requires c = omega (arith, behind-x-bits (goal.at.put_bits-behind_y_bits-requires c).After-put_bits-behind_x_bits)

pub put_bits-behind_strength-requires : goal.put_bits-behind_strength-requires
put_bits-behind_strength-requires c =
    omega (arith, behind-y-bits (goal.at.put_bits-behind_strength-requires c).After-put_bits-behind_y_bits)

pub put_decimal-requires : goal.put_decimal-requires
put_decimal-requires c =
    let small : c.args.c.neighbours < 2 ^ 32 = omega (arith, c.well_formed) in
    omega (
      arith,
      behind-strength (goal.at.put_decimal-requires c).After-put_bits-behind_strength,
      places-half-word c.args.c.neighbours small,
    )

pub returns : goal.returns
returns c =
    wrote-more (wrote_as (ap (λ (n : ℕ). ended (decimal n) space) c.units.ensures) c.put_decimal-behind_x.ensures)
    (wrote-more (wrote_as (ap (λ (n : ℕ). ended (decimal n) space) c.units-2.ensures) c.put_decimal-behind_y.ensures)
    (wrote-more c.put_bits-behind_x_bits.ensures
    (wrote-more c.put_bits-behind_y_bits.ensures (wrote-more c.put_bits-behind_strength.ensures c.put_decimal.ensures))))
