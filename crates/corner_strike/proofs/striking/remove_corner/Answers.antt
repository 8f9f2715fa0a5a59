-- `corner_strike::striking::remove_corner` meets its contract. The invariant: the corners that stay are moved up so far. Assumes nothing.
use Rattle.std.proofs.Common.{rules}
use native.Mathlib.Omega.{arith}
use lib.Ieee.{of_bits}
use Rattle.corner_strike.proofs.Removing.{moving-none, moving-next, moving-all}
use Rattle.corner_strike.proofs.striking.remove_corner.Goals as goal

pub overflow_sub-last : goal.overflow_sub-last
overflow_sub-last c = omega (arith, c.requires.0)

pub loop-at-init : goal.loop-at-init
loop-at-init c = (search rules, moving-none _ _ _ c.requires.0 c.requires.1)

pub loop-at-preserved : goal.loop-at-preserved
loop-at-preserved c = (
  search rules,
  moving-next _ _ _ c.requires.0 c.requires.1 _ _ c.loop-at.invariant.1 _ _ c.loop-at-test.true
      c.at-next.ensures c.put.ensures.put,
)

pub returns-clause-removed : goal.returns-clause-removed
unfolding of_bits
returns-clause-removed c =
    moving-all _ _ _ c.requires.0 c.requires.1 _ _ c.loop-at.invariant.1 _ c.loop-at-test.false
    c.put-2.ensures.put
