use Prim.Native.Nat.{◌-◌}
use lib.ListN.{length}
use Rattle.pgm.specs.Header.{is_space}
use Rattle.pgm.proofs.Scanning.{Passing}
use Rattle.pgm.proofs.header.skip_space.Given as goal

abbrev pub invariant-loop-at : goal.invariant-loop-at
invariant-loop-at l = Passing l.upload is_space l.from l.at

abbrev pub decreases-loop-at : goal.decreases-loop-at
decreases-loop-at l = length l.upload - l.at
