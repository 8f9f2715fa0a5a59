-- A stream and bytes behind it: an item that is whole, or whose kind is unknown, stays what it is. Assumes nothing.
use Prim.Native.Nat.{ℕ, zero, suc, ◌+◌, ◌-◌, ◌<◌, ◌≤◌}
use native.Mathlib.Decide.{dec_lt}
use native.Mathlib.Omega.{arith}
use mathlib.Core.Path.{◌≡◌, refl, sym, ap, ◌∙◌}
use mathlib.Core.Bool.{Bool, true, false, cond}
use mathlib.Core.List.{List, ◌++◌}
use lib.ListN.{length, take, drop, length-append, length-drop, get_or-append}
use lib.Seq.{take-append-le, drop-append-le}
use borrow.Author.Tests.{le-leb, lt-leb, le-ltb}
use Rattle.retention.specs.Retention.{known}
use Rattle.retention.specs.Stream.{little_endian, time_of, time_fault, kind_at, second_at, record_fault, state_at, place_of}
use Rattle.retention.specs.Wanted.{item_fault, wanted_record}
use Rattle.retention.proofs.Records.{timed, whole, fault-kind}

-- nothing is wanted of a record: a byte of it came, and all of it where its kind is known
pub record Settled (s : List ℕ) (at : ℕ) : Type 0 where
  pub some : at < length s
  pub all : known (kind_at s at) ≡ true → at + 9 ≤ length s

module _ (s : List ℕ) (at : ℕ) where
  pub settled : wanted_record s at ≡ 0 → Settled s at
  unfolding wanted_record
  settled e =
      elim (dec_lt at (length s)) [
        | yes l ↦
            let rest = rw (lt-leb (length s) at l) at e in
            record { some = l; all = λ k. let none : at + 9 - length s ≡ 0 = rw k at rest in omega arith }
        | no g ↦ absurd (let one = rw (le-leb (length s) at (omega arith)) at e in let no : ⊥ = omega (arith, one) in no)
      ]

  pub settled-none : Settled s at → wanted_record s at ≡ 0
  unfolding wanted_record
  settled-none w = rw (lt-leb (length s) at w.some) (go (known (kind_at s at)) refl)
    where
      go : (b : Bool) → known (kind_at s at) ≡ b → cond b (at + 9 - length s) 0 ≡ 0
      go true k = omega (arith, w.all k)
      go false k = refl

  pub settled-whole : record_fault s at ≡ 0 → Settled s at
  settled-whole e = let w = whole s at e in record { some = omega (arith, w.long); all = λ k. w.long }

module _ (s t : List ℕ) where
  pub longer : length (s ++ t) ≡ length s + length t
  longer = length-append s t

  -- ---- the time
  time-same : 8 ≤ length s → time_of (s ++ t) ≡ time_of s
  time-same l = ap little_endian (take-append-le 8 s t l)

  pub time-fault-same : 8 ≤ length s → time_fault (s ++ t) ≡ time_fault s
  unfolding time_fault
  time-fault-same l = rw (time-same l, le-ltb (length s) 8 l, le-ltb (length (s ++ t)) 8 (omega (arith, longer)))

  -- ---- a record
  module _ (at : ℕ) where
    pub kind-same : at < length s → kind_at (s ++ t) at ≡ kind_at s at
    kind-same l = get_or-append s t 0 at l

    start-same : at + 9 ≤ length s → second_at (s ++ t) at ≡ second_at s at
    start-same l =
        ap little_endian
        (ap (take 8) (drop-append-le (at + 1) s t (omega arith))
        ∙ take-append-le 8 (drop (at + 1) s) t (omega (arith, length-drop (at + 1) s)))

    module _ (w : Settled s at) where
      pub fault-same : record_fault (s ++ t) at ≡ record_fault s at
      unfolding record_fault
      fault-same = go (known (kind_at s at)) refl
        where
          go : (b : Bool) → known (kind_at s at) ≡ b → record_fault (s ++ t) at ≡ record_fault s at
          go false k =
              fault-kind (s ++ t) at (omega (arith, w.some, longer)) (ap known (kind-same w.some) ∙ k)
              ∙ sym (fault-kind s at w.some k)
          go true k =
              rw (
                kind-same w.some,
                start-same (w.all k),
                lt-leb (length (s ++ t)) at (omega (arith, w.some, longer)),
                lt-leb (length s) at w.some,
                le-ltb (length (s ++ t)) (at + 9) (omega (arith, w.all k, longer)),
                le-ltb (length s) (at + 9) (w.all k),
              )

    pub state-same : 8 ≤ length s → at + 9 ≤ length s → state_at (s ++ t) at ≡ state_at s at
    state-same l w = rw (kind-same (omega arith), start-same w, time-same l)

  -- ---- an item without fault stays so
  pub item-same : (k : ℕ) → item_fault s k ≡ 0 → item_fault (s ++ t) k ≡ 0
  item-same zero e = time-fault-same (timed s e).long ∙ e
  item-same (suc k) e = fault-same (place_of k) (settled-whole s (place_of k) e) ∙ e
