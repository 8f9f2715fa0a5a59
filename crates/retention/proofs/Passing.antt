-- Items passed one after the other, and the bytes that are wanted. Assumes nothing.
use Prim.Native.Nat.{ℕ, zero, suc, ◌+◌, ◌-◌, ◌*◌, ◌<◌, ◌≤◌, max}
use native.Mathlib.Decide.{dec_lt}
use native.Mathlib.Numerals.{add-one}
use native.Mathlib.Omega.{arith}
use mathlib.Core.Path.{◌≡◌, refl, sym, ap, ◌∙◌}
use mathlib.Core.List.{List, ◌++◌}
use borrow.Author.Tests.{ne_eqb}
use Rattle.retention.specs.declared.reading.Standing.{Standing}
use Rattle.retention.specs.Stream.{record_fault, place_of}
use Rattle.retention.specs.Wanted.{item_fault, wanted_item, passed_from, wanted_from, items, wanted, Stands}
use Rattle.retention.proofs.Append.{item-same}

module _ (s : List ℕ) where
  -- an item that is not the time
  place : (k : ℕ) → 9 * suc k - 1 ≡ place_of k
  place k = omega arith

  pub fault-is : (k : ℕ) → (k ≡ 0 → ⊥) → record_fault s (9 * k - 1) ≡ item_fault s k
  fault-is zero h = absurd (h refl)
  fault-is (suc k) h = ap (record_fault s) (place k)

  -- the items before item p are passed: what is asked from item k on is what is asked from item p on
  pub record Passing (k p : ℕ) : Type 0 where
    pub passed : passed_from s (items - k) k ≡ passed_from s (items - p) p
    pub bytes : wanted_from s (items - k) k ≡ wanted_from s (items - p) p
    -- none of them where k is behind all
    pub near : items ≤ k → p ≡ k

  pub passing-none : (k : ℕ) → Passing k k
  passing-none k = record { passed = refl; bytes = refl; near = λ l. refl }

  module _ (k p : ℕ) (w : Passing k p) where
    pub passing-all : items ≤ p → (end : ℕ) → end ≡ p → Stands s k (record { passed = end; bytes = 0 })
    passing-all l end e = record {
      passed = e ∙ sym (w.passed ∙ ap (λ (n : ℕ). passed_from s n p) none ∙ nothing);
      bytes = sym (w.bytes ∙ ap (λ (n : ℕ). wanted_from s n p) none ∙ nothing-wanted);
    }
      where
        none : items - p ≡ 0
        none = omega arith

        nothing : passed_from s 0 p ≡ p
        nothing = unfold passed_from in refl

        nothing-wanted : wanted_from s 0 p ≡ 0
        nothing-wanted = unfold wanted_from in refl

    module _ (some : p < items) where
      one : items - p ≡ suc (items - suc p)
      one = omega arith

      pub passing-next : item_fault s p ≡ 0 → Passing k (p + 1)
      unfolding passed_from wanted_from
      passing-next e =
          rw (add-one p) (record {
            passed = w.passed ∙ rw (one, e);
            bytes = w.bytes ∙ rw (one, e);
            near = λ l. absurd (let k-is = w.near l in let no : ⊥ = omega arith in no);
          })

      pub passing-stops : (item_fault s p ≡ 0 → ⊥) → (n : ℕ) → n ≡ wanted_item s p → Stands s k (record { passed = p; bytes = n })
      unfolding passed_from wanted_from
      passing-stops h n e =
          let stop = ne_eqb (item_fault s p) 0 h in
          record { passed = sym (w.passed ∙ rw (one, stop)); bytes = e ∙ sym (w.bytes ∙ rw (one, stop)) }

-- where a `for` over the items from item k on ends
pub last-is : (k p : ℕ) → items ≤ p → (k ≤ items → p ≤ items) → (items ≤ k → p ≡ k) → max k items ≡ p
last-is k p l within near =
    elim (dec_lt k items) [
      | yes a ↦ let w = within (omega arith) in omega arith
      | no b ↦ let n = near (omega arith) in omega arith
    ]

-- ---- the items before item p have no fault
pub record Before (s : List ℕ) (p : ℕ) : Type 0 where
  pub most : p ≤ items
  pub sound : (i : ℕ) → i < p → item_fault s i ≡ 0

pub before-none : (s : List ℕ) → Before s 0
before-none s = record { most = omega arith; sound = λ i l. absurd (let no : ⊥ = omega arith in no) }

pub before-append : (s t : List ℕ) (p : ℕ) → Before s p → Before (s ++ t) p
before-append s t p b = record { most = b.most; sound = λ i l. item-same s t i (b.sound i l) }

module _ (s : List ℕ) where
  -- they are passed
  pub before-passing : (p : ℕ) → Before s p → Passing s 0 p
  before-passing zero b = passing-none s 0
  before-passing (suc p) b =
      rw (← add-one p)
      (passing-next s 0 p (before-passing p (record { most = omega (arith, b.most); sound = λ i l. b.sound i (omega arith) }))
      (omega (arith, b.most)) (b.sound p (omega arith)))

  -- and those that are passed are such
  before-next : (k : ℕ) → Before s k → k < items → item_fault s k ≡ 0 → Before s (suc k)
  before-next k b l e = record { most = l; sound = sound }
    where
      sound : (i : ℕ) → i < suc k → item_fault s i ≡ 0
      sound i m =
          elim (dec_lt i k) [
            | yes less ↦ b.sound i less
            | no g ↦ let same : i ≡ k = omega arith in rw same e
          ]

  pub passed-before : (n k : ℕ) → n + k ≡ items → Before s k → Before s (passed_from s n k)
  unfolding passed_from
  passed-before zero k e b = b
  passed-before (suc n) k e b =
      elim (dec_lt 0 (item_fault s k)) [
        | yes l ↦ rw (ne_eqb (item_fault s k) 0 (λ z. let no : ⊥ = omega arith in no)) b
        | no g ↦
            let z : item_fault s k ≡ 0 = omega arith in
            rw z (passed-before n (suc k) (omega arith) (before-next k b (omega arith) z))
      ]

  -- the first that is not has a fault, or is cut short
  pub passed-stops : (n k : ℕ) → passed_from s n k < n + k → item_fault s (passed_from s n k) ≡ 0 → ⊥
  unfolding passed_from
  passed-stops zero k l e = omega arith
  passed-stops (suc n) k l e =
      elim (dec_lt 0 (item_fault s k)) [
        | yes p ↦
            let stop = ne_eqb (item_fault s k) 0 (λ z. let no : ⊥ = omega arith in no) in
            let z = rw stop at e in
            let no : ⊥ = omega arith in
            no
        | no g ↦
            let z : item_fault s k ≡ 0 = omega arith in
            let less = rw z at l in
            passed-stops n (suc k) (omega arith) (rw z at e)
      ]

  -- what `wanted` tells, where the items before item k have no fault
  module _ (k : ℕ) (b : Before s k) (r : Standing) (told : Stands s k r) where
    pub stands-wanted : r.bytes ≡ wanted s
    stands-wanted = told.bytes ∙ sym (before-passing k b).bytes

    pub stands-before : Before s r.passed
    stands-before = rw told.passed (passed-before (items - k) k (omega (arith, b.most)) b)
