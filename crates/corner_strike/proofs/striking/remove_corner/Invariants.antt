use Rattle.corner_list.specs.Buffer.{contents, SameSlices}
use Rattle.corner_strike.proofs.Removing.{Moving}
use Rattle.corner_strike.proofs.striking.remove_corner.Given as goal

abbrev pub invariant-loop-at : goal.invariant-loop-at
invariant-loop-at l =
    SameSlices l.initial.b l.b × Moving (contents l.initial.b) l.count l.place l.at (contents l.b)
