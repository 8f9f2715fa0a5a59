-- `merge::apart::copy_list` meets its contract: each turn copies one corner. Assumes nothing.
use Rattle.std.proofs.Common.{rules}
use native.Mathlib.Omega.{arith}
use Rattle.merge.proofs.Copying.{copied_none, copied_more, copied_all}
use Rattle.merge.proofs.apart.copy_list.Goals as goal

pub loop-i-init : goal.loop-i-init
loop-i-init c = (search rules, copied_none _ _)

pub loop-i-preserved : goal.loop-i-preserved
loop-i-preserved c = (
  search rules,
  copied_more _ _ _ _ c.loop-i.invariant.1 _ c.requires c.loop-i-test.true _ c.at.ensures _ c.put.ensures.put,
)

pub returns-clause-copied : goal.returns-clause-copied
returns-clause-copied c = copied_all _ _ _ _ c.loop-i.invariant.1 _ (omega arith) (omega arith)
