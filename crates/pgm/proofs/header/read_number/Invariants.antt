use Prim.Native.Nat.{◌-◌}
use lib.ListN.{length}
use Rattle.pgm.proofs.Numbers.{Reading}
use Rattle.pgm.proofs.header.read_number.Given as goal

abbrev pub invariant-loop-digit : goal.invariant-loop-digit
invariant-loop-digit l = Reading l.upload l.from l.value l.end

abbrev pub decreases-loop-digit : goal.decreases-loop-digit
decreases-loop-digit l = length l.upload - l.end
