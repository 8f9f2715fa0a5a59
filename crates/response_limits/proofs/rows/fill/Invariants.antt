use mathlib.Core.Path.{◌≡◌}
use mathlib.Core.List.{◌++◌}
use Prim.Native.Nat.{◌*◌}
use lib.ListN.{length, drop}
use Rattle.lists.specs.Tab.{grid}
use Rattle.ring.specs.Ring.{ring_of}
use Rattle.response_limits.specs.Limits.{low_at, high_at}
use Rattle.response_limits.proofs.rows.fill.Given as goal

abbrev pub invariant-loop-y : goal.invariant-loop-y
invariant-loop-y l = (length l.lows ≡ length l.initial.lows)
    × (length l.highs ≡ length l.initial.highs)
    × (l.lows ≡ grid l.w l.y (low_at l.low l.high l.w l.h (ring_of l.ring)) ++ drop (l.y * l.w) l.initial.lows)
    × (l.highs ≡ grid l.w l.y (high_at l.low l.high l.w l.h (ring_of l.ring)) ++ drop (l.y * l.w) l.initial.highs)
