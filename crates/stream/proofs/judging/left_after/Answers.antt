-- `stream::judging::left_after` meets its contract, arm by arm. Assumes nothing.
use native.Mathlib.Omega.{arith}
use Rattle.std.proofs.Common.{rules}
use Rattle.std.proofs.lemmas.Grind.{common_steps}
use Rattle.stream.specs.Internal.{left_after}
use Rattle.stream.proofs.judging.left_after.Goals as goal

pub returns-in-1 : goal.returns-in-1
unfolding left_after
returns-in-1 c = rw c.in-1.is c.pixel_count.ensures

pub returns-in-3 : goal.returns-in-3
unfolding left_after
returns-in-3 c = search rules

pub returns-in_default : goal.returns-in_default
unfolding left_after
returns-in_default c = grind (arith, common_steps)
