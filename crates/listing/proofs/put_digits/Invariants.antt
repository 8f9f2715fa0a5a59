use Rattle.listing.proofs.Appending.{Ahead}
use Rattle.listing.proofs.put_digits.Given as goal

abbrev pub invariant-loop-i : goal.invariant-loop-i
invariant-loop-i l = Ahead l.base l.count l.n l.at l.i l.rest l.initial.out l.out
