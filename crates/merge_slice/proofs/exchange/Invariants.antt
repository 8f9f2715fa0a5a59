-- What the loop of `merge_slice::exchange` keeps: the corners passed and the places passed are exchanged, and what follows is as it was.
-- Assumes nothing.
use mathlib.Core.Path.{◌≡◌}
use lib.ListN.{take}
use Rattle.corner_list.specs.CornerList.{front_corners}
use Rattle.corner_list.specs.Buffer.{contents, SameSlices}
use Rattle.merge_slice.proofs.Turns.{corners_upto}
use Rattle.merge_slice.proofs.exchange.Given as goal

abbrev pub invariant-loop-i : goal.invariant-loop-i
invariant-loop-i l =
    let first = l.initial in
    SameSlices first.b l.b × (l.corners ≡ corners_upto first.corners (contents first.b) l.i)
    × (contents l.b ≡ front_corners (take l.i first.corners) (contents first.b))
