-- Laws of the faults of a time and of a record, and what each is without fault. Assumes nothing.
use Prim.Native.Nat.{ℕ, ◌+◌, ◌^◌, ◌<◌, ◌≤◌}
use native.Mathlib.Omega.{arith}
use mathlib.Core.Path.{◌≡◌}
use mathlib.Core.Bool.{Bool, true, false, not}
use mathlib.Core.List.{List, [], ◌∷◌}
use lib.ListN.{length}
use lib.Dec.{ltb, leb}
use borrow.Author.Tests.{lt-ltb, le-ltb, le-leb, lt-leb, ltb-false, not-false}
use Rattle.lists.proofs.Refusals.{lowest-none}
use Rattle.lists.proofs.Judged.{Known}
use Rattle.retention.specs.Retention.{known, is_late}
use Rattle.retention.specs.Stream.{time_of, time_fault, kind_at, second_at, record_fault}

-- a time, and a record, that is whole and has no fault
pub record Timed (s : List ℕ) : Type 0 where
  pub long : 8 ≤ length s
  pub early : time_of s ≤ 2 ^ 40

pub record Whole (s : List ℕ) (at : ℕ) : Type 0 where
  pub long : at + 9 ≤ length s
  pub kind-is : known (kind_at s at) ≡ true
  pub early : second_at s at ≤ 2 ^ 40

module _ (s : List ℕ) where
  -- ---- the time
  pub time-cut : length s < 8 → time_fault s ≡ 7
  unfolding time_fault
  time-cut l = rw (lt-ltb (length s) 8 l)

  pub time-late : 8 ≤ length s → 2 ^ 40 < time_of s → time_fault s ≡ 20
  unfolding time_fault
  time-late l h = rw (le-ltb (length s) 8 l, lt-ltb (2 ^ 40) (time_of s) h)

  pub time-none : Timed s → time_fault s ≡ 0
  unfolding time_fault
  time-none t = rw (le-ltb (length s) 8 t.long, le-ltb (2 ^ 40) (time_of s) t.early)

  pub timed : time_fault s ≡ 0 → Timed s
  unfolding time_fault
  timed e =
      let first = lowest-none (ltb (length s) 8) 7 ((is_late (time_of s), 20) ∷ []) (omega arith) e in
      let second = lowest-none (is_late (time_of s)) 20 [] (omega arith) first.1 in
      record { long = ltb-false (length s) 8 first.0; early = ltb-false (2 ^ 40) (time_of s) second.0 }

  pub time-known : Known (time_fault s)
  unfolding time_fault
  time-known = grind arith

  -- ---- a record
  module _ (at : ℕ) where
    pub fault-end : length s ≤ at → record_fault s at ≡ 7
    unfolding record_fault
    fault-end l = rw (le-leb (length s) at l)

    module _ (some : at < length s) where
      pub fault-kind : known (kind_at s at) ≡ false → record_fault s at ≡ 6
      unfolding record_fault
      fault-kind k = rw (lt-leb (length s) at some, k)

      module _ (k : known (kind_at s at) ≡ true) where
        pub fault-cut : length s < at + 9 → record_fault s at ≡ 7
        unfolding record_fault
        fault-cut l = rw (lt-leb (length s) at some, k, lt-ltb (length s) (at + 9) l)

        pub fault-late : at + 9 ≤ length s → 2 ^ 40 < second_at s at → record_fault s at ≡ 20
        unfolding record_fault
        fault-late l h = rw (lt-leb (length s) at some, k, le-ltb (length s) (at + 9) l, lt-ltb (2 ^ 40) (second_at s at) h)

    pub fault-none : Whole s at → record_fault s at ≡ 0
    unfolding record_fault
    fault-none w =
        rw (
          lt-leb (length s) at (omega (arith, w.long)),
          w.kind-is,
          le-ltb (length s) (at + 9) w.long,
          le-ltb (2 ^ 40) (second_at s at) w.early,
        )

    pub whole : record_fault s at ≡ 0 → Whole s at
    unfolding record_fault
    whole e =
        let late : Bool × ℕ = (is_late (second_at s at), 20) in
        let cut : Bool × ℕ = (ltb (length s) (at + 9), 7) in
        let first = lowest-none (leb (length s) at) 7 ((not (known (kind_at s at)), 6) ∷ cut ∷ late ∷ []) (omega arith) e in
        let second = lowest-none (not (known (kind_at s at))) 6 (cut ∷ late ∷ []) (omega arith) first.1 in
        let third = lowest-none (ltb (length s) (at + 9)) 7 (late ∷ []) (omega arith) second.1 in
        let fourth = lowest-none (is_late (second_at s at)) 20 [] (omega arith) third.1 in
        record {
          long = ltb-false (length s) (at + 9) third.0;
          kind-is = not-false (known (kind_at s at)) second.0;
          early = ltb-false (2 ^ 40) (second_at s at) fourth.0;
        }

    pub fault-known : Known (record_fault s at)
    unfolding record_fault
    fault-known = grind arith
