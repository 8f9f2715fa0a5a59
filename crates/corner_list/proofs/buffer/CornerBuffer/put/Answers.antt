-- `CornerBuffer::put` meets its contract: a place of the buffer is one of each slice. Assumes nothing.
use mathlib.Core.Path.{sym}
use native.Mathlib.Omega.{arith}
use Rattle.corner_list.proofs.Corners.{with-corner-inside, with-corner-outside}
use Rattle.corner_list.proofs.buffer.CornerBuffer.put.Goals as goal

pub returns-then-at-places-clause-put : goal.returns-then-at-places-clause-put
returns-then-at-places-clause-put c = sym (with-corner-inside _ _ _ (omega arith))

pub returns-else-at-places-clause-put : goal.returns-else-at-places-clause-put
returns-else-at-places-clause-put c = sym (with-corner-outside _ _ _ (omega arith))
