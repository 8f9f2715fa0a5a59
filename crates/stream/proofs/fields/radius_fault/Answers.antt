-- `stream::fields::radius_fault` meets its contract, return by return. Assumes nothing.
use mathlib.Core.Path.{sym, ap, ◌∙◌}
use mathlib.Core.Bool.{true, false}
use Rattle.lists.specs.Refusals.{verdict}
use Rattle.stream.proofs.Parameters.{radius-judged}
use Rattle.stream.proofs.fields.radius_fault.Goals as goal

pub returns-then-is_outside : goal.returns-then-is_outside
returns-then-is_outside c =
    ap verdict
    (radius-judged c.args.bits c.from_bits-radius.result c.from_bits-radius.ensures true
    (sym c.is_outside.ensures ∙ c.if-is_outside.true))

pub returns : goal.returns
returns c =
    ap verdict
    (radius-judged c.args.bits c.from_bits-radius.result c.from_bits-radius.ensures false
    (sym c.is_outside.ensures ∙ c.if-is_outside.false))
