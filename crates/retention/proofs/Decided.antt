-- The bytes that are wanted are those that decide what is printed: with none it is decided, and with fewer it is open. Assumes nothing.
use Prim.Native.Nat.{ℕ, zero, suc, ◌+◌, ◌-◌, ◌<◌, ◌≤◌}
use native.Mathlib.Decide.{dec_lt}
use native.Mathlib.Omega.{arith}
use mathlib.Core.Path.{◌≡◌, refl, sym, ap, ◌∙◌}
use mathlib.Core.Bool.{Bool, true, false, cond}
use mathlib.Core.List.{List, ◌++◌}
use lib.ListN.{length}
use borrow.Author.Tests.{le-leb, lt-leb, ne_eqb}
use Rattle.listing.specs.Text.{refused_text}
use Rattle.retention.specs.Retention.{known}
use Rattle.retention.specs.Stream.{most_records, longest_input, time_fault, kind_at, record_fault, place_of, lines_from, output_of}
use Rattle.retention.specs.Wanted.{wanted_record, wanted_from, wanted}
use Rattle.retention.proofs.Records.{timed, whole}
use Rattle.retention.proofs.Texts.{refuses, line_refused, line-letter}
use Rattle.retention.proofs.Append.{settled, settled-whole, longer, time-fault-same, fault-same, state-same}

-- ---- the time, and one record, of those looked at
module _ (s : List ℕ) (n : ℕ) where
  pub time-past : time_fault s ≡ 0 → wanted_from s (suc n) 0 ≡ wanted_from s n 1
  unfolding wanted_from
  time-past e = rw e

  pub time-here : (time_fault s ≡ 0 → ⊥) → wanted_from s (suc n) 0 ≡ 8 - length s
  unfolding wanted_from
  time-here h = rw (ne_eqb (time_fault s) 0 h)

module _ (s : List ℕ) (n k : ℕ) where
  abbrev fault : ℕ
  fault = record_fault s (place_of k)

  pub wanted-past : fault ≡ 0 → wanted_from s (suc n) (suc k) ≡ wanted_from s n (suc (suc k))
  unfolding wanted_from
  wanted-past e = rw e

  pub wanted-here : (fault ≡ 0 → ⊥) → wanted_from s (suc n) (suc k) ≡ wanted_record s (place_of k)
  unfolding wanted_from
  wanted-here h = rw (ne_eqb fault 0 h)

pub wanted-none : (s : List ℕ) (k : ℕ) → wanted_from s 0 k ≡ 0
unfolding wanted_from
wanted-none s k = refl

-- ---- decided
module _ (s t : List ℕ) (long : 8 ≤ length s) where
  lines_same : (n k : ℕ) → wanted_from s n (suc k) ≡ 0 → lines_from (s ++ t) n k ≡ lines_from s n k
  unfolding lines_from
  lines_same zero k w = refl
  lines_same (suc n) k w =
      elim (dec_lt 0 (record_fault s (place_of k))) [
        | yes p ↦
            let h : record_fault s (place_of k) ≡ 0 → ⊥ = λ z. omega arith in
            let done = settled s (place_of k) (sym (wanted-here s n k h) ∙ w) in
            let same = fault-same s t (place_of k) done in
            line_refused (s ++ t) n k (omega (arith, done.some, longer s t)) (record_fault s (place_of k)) (sym same) h
            ∙ sym (line_refused s n k done.some (record_fault s (place_of k)) refl h)
        | no g ↦
            let z : record_fault s (place_of k) ≡ 0 = omega arith in
            let done = settled-whole s (place_of k) z in
            let same = fault-same s t (place_of k) done in
            line-letter (s ++ t) n k (omega (arith, done.some, longer s t)) (same ∙ z)
            ∙ rw (state-same s t (place_of k) long (whole s (place_of k) z).long, lines_same n (suc k) (sym (wanted-past s n k z) ∙ w))
            (sym (line-letter s n k done.some z))
      ]

module _ (s : List ℕ) where
  pub refused-time : (time_fault s ≡ 0 → ⊥) → output_of s ≡ refused_text (time_fault s)
  unfolding output_of
  refused-time h = refuses (time_fault s) (lines_from s most_records 0) h

  pub listed-time : time_fault s ≡ 0 → output_of s ≡ lines_from s most_records 0
  unfolding output_of
  listed-time e = rw e

pub decided : (s t : List ℕ) → wanted s ≡ 0 → output_of (s ++ t) ≡ output_of s
decided s t w =
    elim (dec_lt 0 (time_fault s)) [
      | yes p ↦
          let h : time_fault s ≡ 0 → ⊥ = λ z. omega arith in
          let same = time-fault-same s t (omega (arith, time-here s most_records h, w)) in
          refused-time (s ++ t) (λ z. h (sym same ∙ z)) ∙ ap refused_text same ∙ sym (refused-time s h)
      | no g ↦
          let z : time_fault s ≡ 0 = omega arith in
          let long = (timed s z).long in
          listed-time (s ++ t) (time-fault-same s t long ∙ z)
          ∙ lines_same s t long most_records 0 (sym (time-past s most_records z) ∙ w)
          ∙ sym (listed-time s z)
    ]

-- ---- at most so many: up to the place behind the records looked at
module _ (s : List ℕ) where
  record-most : (at : ℕ) → at ≤ length s → 0 < wanted_record s at → length s + wanted_record s at ≤ at + 9
  unfolding wanted_record
  record-most at l p =
      elim (dec_lt at (length s)) [
        | yes some ↦ rw (lt-leb (length s) at some) (go (known (kind_at s at)) (rw (lt-leb (length s) at some) at p))
        | no g ↦ rw (le-leb (length s) at (omega arith)) (omega arith)
      ]
    where
      go : (b : Bool) → 0 < cond b (at + 9 - length s) 0 → length s + cond b (at + 9 - length s) 0 ≤ at + 9
      go true p = omega arith
      go false p = absurd (let no : ⊥ = omega arith in no)

  lines-most : (n k : ℕ) → place_of k ≤ length s → 0 < wanted_from s n (suc k) → length s + wanted_from s n (suc k) ≤ place_of (k + n)
  lines-most zero k l p = absurd (let no : ⊥ = omega (arith, wanted-none s (suc k)) in no)
  lines-most (suc n) k l p =
      elim (dec_lt 0 (record_fault s (place_of k))) [
        | yes f ↦
            let h : record_fault s (place_of k) ≡ 0 → ⊥ = λ z. omega arith in
            let is = wanted-here s n k h in
            omega (arith, record-most (place_of k) l (rw is at p), is)
        | no g ↦
            let z : record_fault s (place_of k) ≡ 0 = omega arith in
            let is = wanted-past s n k z in
            let more : place_of (suc k) ≤ length s = omega (arith, (whole s (place_of k) z).long) in
            omega (arith, lines-most n (suc k) more (rw is at p), is)
      ]

  pub most : 0 < wanted s → length s + wanted s ≤ longest_input
  most p =
      elim (dec_lt 0 (time_fault s)) [
        | yes f ↦
            let h : time_fault s ≡ 0 → ⊥ = λ z. omega arith in
            omega (arith, time-here s most_records h)
        | no g ↦
            let z : time_fault s ≡ 0 = omega arith in
            let is = time-past s most_records z in
            omega (arith, lines-most most_records 0 (timed s z).long (rw is at p), is)
      ]
