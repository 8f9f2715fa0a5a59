use Prim.Native.Nat.{◌+◌}
use Rattle.float32.specs.Float32.{zero}
use Rattle.response.specs.Internal.{Filled, SumPlaces, responses}
use Rattle.response.proofs.rows.block.Given as goal

abbrev pub invariant-loop-k : goal.invariant-loop-k
invariant-loop-k g l =
    Filled zero l.f.pw l.f.ph (responses l.img l.f) l.i (l.i + l.n) l.j (l.j + l.k) l.initial.map l.map × SumPlaces l.sums
