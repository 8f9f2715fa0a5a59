use Rattle.lists.proofs.Tab.{Prefix}
use Rattle.pyramid.specs.Internal.{pixels_at_once, box_at}
use Rattle.pyramid.proofs.halve.means.Given as goal

abbrev pub invariant-loop-i : goal.invariant-loop-i
invariant-loop-i l = Prefix pixels_at_once (box_at l.pixels l.top l.low) l.i l.out
