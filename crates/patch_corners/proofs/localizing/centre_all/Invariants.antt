use Prim.Native.Nat.{◌-◌}
use Rattle.corner_list.specs.Buffer.{contents, SameSlices}
use Rattle.patch_corners.specs.MapCorners.{centred}
use Rattle.patch_corners.specs.Internal.{lowered}
use Rattle.patch_corners.proofs.Changing.{Changing}
use Rattle.patch_corners.proofs.localizing.centre_all.Given as goal

abbrev pub invariant-loop-i : goal.invariant-loop-i
invariant-loop-i l =
    SameSlices l.initial.list l.list
    × Changing (λ c. centred l.radius l.map l.w l.h (lowered l.top c)) l.held l.n l.i (contents l.initial.list) (contents l.list)

abbrev pub decreases-loop-i : goal.decreases-loop-i
decreases-loop-i l = l.n - l.i
