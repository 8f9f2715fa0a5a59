-- Laws of an item's refusal and state. Assumes nothing.
use Prim.Native.Nat.{ℕ, ◌^◌, ◌<◌, ◌≤◌}
use native.Mathlib.Omega.{arith}
use mathlib.Core.Path.{◌≡◌}
use mathlib.Core.Bool.{Bool, true, false, cond, not, ◌||◌}
use mathlib.Core.List.{[], ◌∷◌}
use lib.Dec.{ltb}
use borrow.Author.Tests.{le-ltb, ltb-false, not-false}
use Rattle.std.specs.Prelude.{Result}
use Rattle.lists.specs.declared.refusal.Refusal.{Refusal}
use Rattle.lists.specs.Refusals.{judged}
use Rattle.lists.proofs.Judged.{number-judged, values-judged}
use Rattle.lists.proofs.Tests.{or-neither}
use Rattle.lists.proofs.Refusals.{lowest-none}
use Rattle.retention.specs.declared.Holding.{Holding}
use Rattle.retention.specs.declared.Holding.TheVariants.{NotYet, Held, Gone}
use Rattle.retention.specs.Retention.{known, stays, state_of, is_late, refusal_of, letter_of}
use Rattle.retention.specs.Answer.{StateTold}

-- an item that is not refused
pub record Sound (kind start time : ℕ) : Type 0 where
  pub kind-is : known kind ≡ true
  pub early : start ≤ 2 ^ 40
  pub now-early : time ≤ 2 ^ 40

pub sound : (kind start time : ℕ) → refusal_of kind start time ≡ 0 → Sound kind start time
unfolding refusal_of
sound kind start time e =
    let first = lowest-none (not (known kind)) 6 ((is_late start || is_late time, 20) ∷ []) (omega arith) e in
    let second = lowest-none (is_late start || is_late time) 20 [] (omega arith) first.1 in
    let neither = or-neither (is_late start) (is_late time) second.0 in
    record {
      kind-is = not-false (known kind) first.0;
      early = ltb-false (2 ^ 40) start neither.0;
      now-early = ltb-false (2 ^ 40) time neither.1;
    }

pub not-refused : (kind start time : ℕ) → Sound kind start time → refusal_of kind start time ≡ 0
unfolding refusal_of
not-refused kind start time o = rw (o.kind-is, le-ltb (2 ^ 40) start o.early, le-ltb (2 ^ 40) time o.now-early)

-- the state has a letter
pub lettered : (kind start time : ℕ) → 0 < letter_of (state_of kind start time)
unfolding state_of
lettered kind start time = go (ltb time start) (stays kind start time)
  where
    go : (a b : Bool) → 0 < letter_of (cond a NotYet (cond b Held Gone))
    go true b = omega arith
    go false true = omega arith
    go false false = omega arith

-- the promise of `holding`
pub state-told : (kind start time : ℕ) (r : Result Holding Refusal) → r ≡ judged (refusal_of kind start time) (state_of kind start time)
    → StateTold kind start time r
unfolding refusal_of
state-told kind start time r e =
    record { answer = e; number = number-judged _ _ e (grind arith); values = values-judged _ _ _ e }
