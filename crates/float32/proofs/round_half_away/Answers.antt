-- `float32::round_half_away` meets its contract. Assumes nothing.
use Rattle.std.proofs.Common.{◌≡◌, ◌+◌, ◌/◌, ◌^◌, ◌<◌, false, pos, ◌∙◌, arith}
use lib.Ieee.{of_bits, lt, fin}
use Rattle.float32.specs.Float32.{signed, round_half_away}
use Rattle.float32.proofs.HalfAway.{rounds, beyond, signed-negative, rounded}
use Rattle.float32.proofs.round_half_away.Goals as goal

-- after the call of `cut_off`: its result is small, and half of one more is the answer
abbrev halved : (c : goal.After-cut_off)
    → (c.cut_off.result < 2 ^ 26) × (signed (lt c.args.x (fin false 0 (pos 0))) ((c.cut_off.result + 1) / 2)
    ≡ round_half_away c.args.x)
unfolding of_bits
halved c =
    rounds c.args.x c.abs-a.result c.cut_off.result
    c.well_formed.0.1 c.abs-a.ensures c.if-a.true c.cut_off.ensures

pub overflow_add-n : goal.overflow_add-n
overflow_add-n c = record { fits = omega (arith, (halved c).0) }

pub returns-then-n-eq0 : goal.returns-then-n-eq0
unfolding of_bits
returns-then-n-eq0 c = rounded _ _ (rw (c.if-x.true, c.if-n-eq0.true) at (halved c.before.before).1)

pub returns-then-x : goal.returns-then-x
unfolding of_bits
returns-then-x c = rounded _ _ (signed-negative _ c.if-n-eq0.false ∙ (rw c.if-x.true at (halved c.before.before).1))

pub returns-then-a : goal.returns-then-a
unfolding of_bits
returns-then-a c = rounded _ _ (rw c.if-x.false at (halved c.before).1)

pub returns : goal.returns
unfolding of_bits
returns c = rounded _ _ (beyond c.args.x c.abs-a.result c.abs-a.ensures c.if-a.false)
