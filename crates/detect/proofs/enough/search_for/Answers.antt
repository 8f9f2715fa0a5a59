-- `detect::enough::search_for` meets its contract: what is found and the peaks ahead are all peaks. Assumes nothing.
use Rattle.std.proofs.Common.{refl, arith}
use Rattle.detect.proofs.Counting.{searching-first, searching-yes, searching-next, searching-no}
use Rattle.detect.proofs.enough.search_for.Goals as goal

pub loop-init : goal.loop-init
loop-init c = searching-first _ _

pub next_peak-requires : goal.next_peak-requires
next_peak-requires c = (c.loop.invariant.left, c.loop.invariant.top)

pub returns-in_default : goal.returns-in_default
returns-in_default c =
    searching-no _ _ _ _ _ c.loop.invariant c.in_default.ensures _ c.loop-test.true _ c.rows_inside.ensures

pub loop-preserved : goal.loop-preserved
loop-preserved c = searching-next _ _ _ _ _ c.loop.invariant _ c.in-Some.ensures _ refl

pub returns : goal.returns
returns c = searching-yes _ _ _ _ _ c.loop.invariant _ (omega arith)
