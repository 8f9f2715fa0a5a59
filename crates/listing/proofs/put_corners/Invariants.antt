use Rattle.corner_list.specs.CornerList.{corner_at}
use Rattle.corner_list.specs.Buffer.{seen}
use Rattle.listing.proofs.Texts.{Lines}
use Rattle.listing.proofs.put_corners.Given as goal

abbrev pub invariant-loop-i : goal.invariant-loop-i
invariant-loop-i l = Lines (corner_at (seen l.list)) l.count l.initial.at l.initial.out l.i l.at l.out
