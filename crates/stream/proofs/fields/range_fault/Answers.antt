-- `stream::fields::range_fault` meets its contract, return by return. Assumes nothing.
use Rattle.stream.specs.Internal.{range_fault}
use Rattle.stream.proofs.fields.range_fault.Goals as goal

pub returns-then-is_outside : goal.returns-then-is_outside
unfolding range_fault
returns-then-is_outside c = rw (← c.from.ensures, ← c.from-2.ensures, ← c.from-3.ensures, ← c.is_outside.ensures, c.if-is_outside.true)

pub returns : goal.returns
unfolding range_fault
returns c = rw (← c.from.ensures, ← c.from-2.ensures, ← c.from-3.ensures, ← c.is_outside.ensures, c.if-is_outside.false)
