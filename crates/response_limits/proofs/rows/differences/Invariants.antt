use lib.IntN.{sub_ℕ}
use lib.ListN.{length, get_or}
use Rattle.lists.proofs.Tab.{Prefix}
use Rattle.response_limits.proofs.rows.differences.Given as goal

abbrev pub invariant-loop-i : goal.invariant-loop-i
invariant-loop-i l = Prefix (length l.initial.out) (λ k. sub_ℕ (get_or l.gains k 0) (get_or l.costs k 0)) l.i l.out
