use Prim.Native.Nat.{◌+◌}
use Rattle.lists.proofs.Tab.{Prefix}
use Rattle.response_limits.proofs.Samples.{cell_limits}
use Rattle.response_limits.proofs.rows.run.Given as goal

abbrev pub invariant-loop-j : goal.invariant-loop-j
invariant-loop-j l =
    Prefix 32 (λ i. (cell_limits l.low l.high l.w l.radius (l.x + i) l.y).low_gain) l.j l.low_gains
    × Prefix 32 (λ i. (cell_limits l.low l.high l.w l.radius (l.x + i) l.y).low_cost) l.j l.low_costs
    × Prefix 32 (λ i. (cell_limits l.low l.high l.w l.radius (l.x + i) l.y).high_gain) l.j l.high_gains
    × Prefix 32 (λ i. (cell_limits l.low l.high l.w l.radius (l.x + i) l.y).high_cost) l.j l.high_costs
