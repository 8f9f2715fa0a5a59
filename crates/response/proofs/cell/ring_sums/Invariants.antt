use mathlib.Core.Path.{◌≡◌}
use Rattle.response.specs.OnePass.{passed_after}
use Rattle.response.specs.Internal.{SumsBounded}
use Rattle.response.proofs.cell.ring_sums.Given as goal

abbrev pub invariant-loop-k : goal.invariant-loop-k
invariant-loop-k l = (l.h ≡ passed_after l.s l.k) × SumsBounded l.k l.h
