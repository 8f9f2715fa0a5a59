use Prim.Native.Nat.{◌≤◌}
use mathlib.Core.Path.{◌≡◌}
use lib.ListN.{length}
use Rattle.std.specs.Prelude.{Ok}
use Rattle.ring.specs.Ring.{ring_of}
use Rattle.response.specs.Patch.{whole}
use Rattle.corner_list.specs.Buffer.{contents, SameSlices}
use Rattle.frame.specs.Internal.{AddsCorners, RowsHeld}
use Rattle.frame.proofs.InBands.{corners_to, ties_to}
use Rattle.frame.proofs.checked.CheckedFrame.add_image_corners.Given as goal

abbrev pub invariant-loop-j : goal.invariant-loop-j
invariant-loop-j l =
    SameSlices l.initial.list l.list × (l.j ≤ l.self.h) × (length l.map ≡ length l.initial.map)
    × RowsHeld (whole l.self.img.now l.self.w l.self.h (ring_of l.self.p.ring)) l.self.w l.j l.map
    × AddsCorners (corners_to l.self.p l.self.img.now l.self.w l.self.h l.self.exact l.j)
    (ties_to l.self.p l.self.img.now l.self.w l.self.h l.self.exact l.j) 0
    (contents l.initial.list) (Ok (record { count = l.held; ties = l.ties })) (contents l.list)
