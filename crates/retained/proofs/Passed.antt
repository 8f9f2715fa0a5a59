-- A turn of `retained::read_stream`: the bytes that came lie in the buffer, and the items that are passed have no fault. Assumes nothing.
use Rattle.std.proofs.Common.{ℕ, ◌+◌, ◌-◌, ◌≤◌, ◌≡◌, sym, ap, ◌∙◌, subst, arith, List, ◌++◌, length, take, drop}
use lib.Seq.{take-add}
use Rattle.input.specs.declared.Input.{Input}
use Rattle.input.specs.Input.{begun, ReadOn}
use Rattle.input.proofs.Turn.{Came, as_before, more-came, room}
use Rattle.retention.specs.declared.reading.Standing.{Standing}
use Rattle.retention.specs.Wanted.{wanted, Stands}
use Rattle.retention.proofs.Passing.{Before, before-none, before-append, stands-wanted, stands-before}
use Rattle.retention.proofs.Decided.{most}
use Rattle.retention.specs.Stream.{longest_input}

pub record Passed (s : List ℕ) (i : Input) (passed : ℕ) : Type 0 where
  pub came : Came longest_input s i
  pub before : Before (take i.count s) passed

-- before the first read
pub begins : (s : List ℕ) (i : Input) → length s ≡ longest_input → i ≡ begun → Passed s i 0
begins s i long e =
    subst (λ (j : Input). Passed s j 0) (sym e)
    (record { came = record { long = long; few = omega arith; some = tt }; before = before-none (take 0 s) })

-- one turn, with n bytes in the buffer
module _ (s : List ℕ) (i : Input) (passed : ℕ) (inv : Passed s i passed) (n : ℕ) (counts : n ≡ i.count) (r : Standing)
    (told : Stands (take n s) passed r) where
  stands : Stands (take i.count s) passed r
  stands = subst (λ (m : ℕ). Stands (take m s) passed r) counts told

  pub wants : r.bytes ≡ wanted (take n s)
  wants =
      stands-wanted (take i.count s) passed inv.before r stands ∙ ap (λ (m : ℕ). wanted (take m s)) (sym counts)

  -- the items that are passed have no fault with the bytes of one more read either
  module _ (some : r.bytes ≡ 0 → ⊥) (j : Input) (after : List ℕ) (read : ReadOn i r.bytes s j after) (grown : j.count ≡ i.count → ⊥)
    where
      fits : i.count + r.bytes ≤ length s
      fits = room wanted longest_input most s i inv.came n counts r.bytes wants some

      pub passes : Before (take j.count after) r.passed
      passes =
          let longer : j.count ≡ i.count + (j.count - i.count) = omega (arith, more-came i r.bytes s j after read fits grown) in
          rw (ap (λ (k : ℕ). take k after) longer ∙ take-add i.count (j.count - i.count) after
          ∙ ap (λ (front : List ℕ). front ++ take (j.count - i.count) (drop i.count after))
          (as_before i r.bytes s j after read fits))
          (before-append (take i.count s) (take (j.count - i.count) (drop i.count after)) r.passed
          (stands-before (take i.count s) passed inv.before r stands))
