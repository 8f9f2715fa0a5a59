-- The floats before the index are raised, and those from it on are as they were.
use Prim.Native.Nat.{ℕ, ◌+◌, ◌≤◌}
use mathlib.Core.Path.{◌≡◌}
use lib.ListN.{get_or}
use lib.Ieee.{nan, binary32, add}
use Rattle.lists.proofs.Tab.{Prefix}
use Rattle.frame.proofs.shifting.shift.Given as goal

abbrev pub invariant-loop-x : goal.invariant-loop-x
invariant-loop-x l =
    Prefix l.n (λ i. add binary32 (get_or l.fn.d (l.held + i) nan) l.by) l.x-index l.x-items
    × ((i : ℕ) → l.x-index ≤ i → get_or l.x-items i nan ≡ get_or l.initial.x-items i nan)
