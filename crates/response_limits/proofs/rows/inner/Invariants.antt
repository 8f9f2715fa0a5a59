use Prim.Native.Nat.{◌+◌, ◌-◌, ◌≤◌}
use Rattle.ring.specs.Ring.{ring_of}
use Rattle.lists.proofs.Tab.{Prefix}
use Rattle.response_limits.specs.Limits.{low_at, high_at}
use Rattle.response_limits.proofs.rows.inner.Given as goal

abbrev pub invariant-loop-i : goal.invariant-loop-i
invariant-loop-i l = (l.i ≤ l.n)
    × Prefix l.n (λ k. low_at l.low l.high l.w l.h (ring_of l.radius) (l.x + k) l.y) l.i l.lows
    × Prefix l.n (λ k. high_at l.low l.high l.w l.h (ring_of l.radius) (l.x + k) l.y) l.i l.highs

abbrev pub decreases-loop-i : goal.decreases-loop-i
decreases-loop-i l = l.n - l.i
