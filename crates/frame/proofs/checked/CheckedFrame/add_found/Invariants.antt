use mathlib.Core.Path.{◌≡◌}
use lib.ListN.{length}
use Rattle.std.specs.Prelude.{Ok}
use Rattle.lists.specs.Places.{flat_map, sum_of}
use Rattle.corner_list.specs.CornerList.{corners_of}
use Rattle.corner_list.specs.Buffer.{contents, seen, SameSlices}
use Rattle.patch_corners.specs.OneMap.{choice_of}
use Rattle.frame_pass.specs.Pass.{corners_about, ties_about}
use Rattle.frame.specs.Internal.{AddsCorners}
use Rattle.frame.proofs.checked.CheckedFrame.add_found.Given as goal

abbrev pub invariant-loop-i : goal.invariant-loop-i
invariant-loop-i l =
    SameSlices l.initial.list l.list × (length l.map ≡ length l.initial.map)
    × AddsCorners (flat_map (corners_about l.self.p l.self.img.now l.self.w l.self.h (choice_of l.self.p l.self.exact) l.k)
    (corners_of (seen l.seeds) l.i))
    (sum_of (ties_about l.self.p l.self.img.now l.self.w l.self.h (choice_of l.self.p l.self.exact) l.k)
    (corners_of (seen l.seeds) l.i)) 0 (contents l.initial.list)
    (Ok (record { count = l.held; ties = l.ties })) (contents l.list)
