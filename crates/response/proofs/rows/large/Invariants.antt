use Prim.Native.Nat.{◌-◌, ◌≤◌}
use Rattle.float32.specs.Float32.{zero}
use Rattle.response.specs.Internal.{Filled, responses}
use Rattle.response.proofs.rows.large.Given as goal

abbrev pub invariant-loop-j : goal.invariant-loop-j
invariant-loop-j l =
    (l.c ≤ l.j) × (l.j ≤ l.e) × Filled zero l.f.pw l.f.ph (responses l.img l.f) l.a l.b l.c l.j l.initial.map l.map

abbrev pub decreases-loop-j : goal.decreases-loop-j
decreases-loop-j l = l.e - l.j
