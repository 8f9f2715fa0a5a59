-- `detect::searching::blocks_below` meets its contract, block by block. Assumes nothing.
use Rattle.std.proofs.Common.{arith}
use Rattle.detect.proofs.Rows.{below_none, below-part}
use Rattle.detect.proofs.searching.blocks_below.Goals as goal

pub loop-i-init : goal.loop-i-init
loop-i-init c = below_none _ _

pub loop-i-preserved : goal.loop-i-preserved
loop-i-preserved c =
    below-part _ _ _ _ _ c.loop-i.invariant (omega arith) c.count_low.ensures (omega arith)
