-- What the loop of `merge::apart::copy_list` keeps: the corners passed are copied, into the same slices. Assumes nothing.
use Rattle.corner_list.specs.Buffer.{contents, seen, SameSlices}
use Rattle.merge.proofs.Copying.{Copied}
use Rattle.merge.proofs.apart.copy_list.Given as goal

abbrev pub invariant-loop-i : goal.invariant-loop-i
invariant-loop-i l = SameSlices l.initial.b l.b × Copied (seen l.list) l.i (contents l.initial.b) (contents l.b)
