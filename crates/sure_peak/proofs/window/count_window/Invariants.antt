use Prim.Native.Nat.{◌-◌}
use lib.IntN.{pos}
use lib.Signed.{lt_z}
use Rattle.lists.proofs.Rows.{CountRows}
use Rattle.sure_peak.proofs.window.count_window.Given as goal

abbrev pub invariant-loop-yy : goal.invariant-loop-yy
invariant-loop-yy l = CountRows (lt_z l.v) l.map l.w (pos 0) l.x0 l.x1 l.initial.yy l.y1 l.n l.yy

abbrev pub decreases-loop-yy : goal.decreases-loop-yy
decreases-loop-yy l = l.y1 - l.yy
