use Prim.Native.Nat.{◌+◌, ◌-◌, ◌≤◌}
use Rattle.float32.specs.Float32.{zero}
use Rattle.response.specs.Internal.{Filled, responses}
use Rattle.response.proofs.rows.band.Given as goal

abbrev pub invariant-loop-i : goal.invariant-loop-i
invariant-loop-i l =
    (l.a ≤ l.i) × (l.i ≤ l.b) × Filled zero l.f.pw l.f.ph (responses l.img l.f) l.a l.i l.j (l.j + l.m) l.initial.map l.map

abbrev pub decreases-loop-i : goal.decreases-loop-i
decreases-loop-i l = l.b - l.i
