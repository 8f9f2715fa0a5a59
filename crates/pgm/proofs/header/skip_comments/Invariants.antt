use Rattle.pgm.proofs.Scanning.{Skipping}
use Rattle.pgm.proofs.header.skip_comments.Given as goal

abbrev pub invariant-loop-at : goal.invariant-loop-at
invariant-loop-at l = Skipping l.upload l.from l.at l.inside
