-- Laws of one record: its fault by where its judging ends, what a record without fault is, and that bytes behind a record do not change it.
-- Assumes nothing.
use Prim.Native.Nat.{ℕ, suc, ◌+◌, ◌-◌, ◌<◌, ◌≤◌}
use native.Mathlib.Numerals.{add-one}
use native.Mathlib.Omega.{arith}
use mathlib.Core.Path.{◌≡◌, refl, ap, ◌∙◌}
use mathlib.Core.Bool.{Bool, true, false, not}
use mathlib.Core.List.{List, [], ◌∷◌, ◌++◌}
use lib.ListN.{length, get_or, take, drop, drop_of_length-le, length-append, length-drop}
use lib.Seq.{drop-cons, take-append-le, drop-append-le}
use lib.Dec.{eqb, ltb}
use borrow.Author.Tests.{lt-ltb, le-ltb, ltb-false, eqb-true, not-false}
use Rattle.lists.specs.Refusals.{lowest}
use Rattle.lists.proofs.Refusals.{lowest-some}
use Rattle.stream.specs.Stream.{known, body_length, body_of, body_fault, record_fault}
use Rattle.stream.specs.Internal.{kind_fault}

-- the conditions that are judged behind those of the kind
abbrev body_conditions : ℕ → ℕ → List ℕ → List (Bool × ℕ)
body_conditions due left rest = (ltb (length rest) (body_length due), 7) ∷ (true, body_fault due left (take (body_length due) rest)) ∷ []

kind-passed : (a b : Bool) (cs : List (Bool × ℕ)) → lowest ((a, 6) ∷ (b, 11) ∷ []) ≡ 0 → lowest ((a, 6) ∷ (b, 11) ∷ cs) ≡ lowest cs
kind-passed true b cs e = absurd (let no : ⊥ = omega arith in no)
kind-passed false true cs e = absurd (let no : ⊥ = omega arith in no)
kind-passed false false cs e = refl

-- ---- the fault of the record at a place, as it is judged
module _ (due left : ℕ) (s : List ℕ) (at : ℕ) where
  pub fault-end : length s ≤ at → record_fault due left (drop at s) ≡ 7
  unfolding record_fault
  fault-end h = rw (drop_of_length-le s {i = at} h)

  module _ (h : at < length s) where
    pub fault-kind : (kind_fault (get_or s at 0) due ≡ 0 → ⊥) → record_fault due left (drop at s) ≡ kind_fault (get_or s at 0) due
    unfolding record_fault kind_fault
    fault-kind k =
        rw (drop-cons s at 0 h)
        (lowest-some ((not (known (get_or s at 0)), 6) ∷ (not (eqb (get_or s at 0) due), 11) ∷ [])
        (body_conditions due left (drop (suc at) s)) k)

    module _ (k : kind_fault (get_or s at 0) due ≡ 0) where
      fault-behind : record_fault due left (drop at s) ≡ lowest (body_conditions due left (drop (suc at) s))
      unfolding record_fault kind_fault
      fault-behind =
          rw (drop-cons s at 0 h)
          (kind-passed (not (known (get_or s at 0))) (not (eqb (get_or s at 0) due)) (body_conditions due left (drop (suc at) s)) k)

      pub fault-cut : length s - (at + 1) < body_length due → record_fault due left (drop at s) ≡ 7
      fault-cut c = fault-behind ∙ rw (lt-ltb (length (drop (suc at) s)) (body_length due) (omega (arith, length-drop (suc at) s)))

      pub fault-body : (n : ℕ) → n ≡ body_length due → n ≤ length s - (at + 1)
          → record_fault due left (drop at s) ≡ body_fault due left (take n (drop (at + 1) s))
      fault-body n e c =
          fault-behind ∙ rw (le-ltb (length (drop (suc at) s)) (body_length due) (omega (arith, length-drop (suc at) s)), e, add-one)

-- ---- a record without fault: its kind is the one due, it is whole, and its body has no fault
pub record Sound (due left : ℕ) (s : List ℕ) : Type 0 where
  pub kind : s ≡ due ∷ drop 1 s
  pub long : 1 + body_length due ≤ length s
  pub body : body_fault due left (body_of due s) ≡ 0

pub sound : (due left : ℕ) (s : List ℕ) → record_fault due left s ≡ 0 → Sound due left s
unfolding record_fault
sound due left [] e = absurd (let no : ⊥ = omega arith in no)
sound due left (kind ∷ rest) e =
    let p = parts (not (known kind)) (not (eqb kind due)) (ltb (length rest) (body_length due))
    (body_fault due left (take (body_length due) rest)) e in
    record {
      kind = ap (λ (k : ℕ). k ∷ rest) (eqb-true kind due (not-false (eqb kind due) p.0));
      long = omega (arith, ltb-false (length rest) (body_length due) p.1);
      body = p.2;
    }
  where
    parts : (a b l : Bool) (n : ℕ) → lowest ((a, 6) ∷ (b, 11) ∷ (l, 7) ∷ (true, n) ∷ []) ≡ 0 → (b ≡ false) × (l ≡ false) × (n ≡ 0)
    parts true b l n e = absurd (let no : ⊥ = omega arith in no)
    parts false true l n e = absurd (let no : ⊥ = omega arith in no)
    parts false false true n e = absurd (let no : ⊥ = omega arith in no)
    parts false false false n e = (refl, refl, e)

-- ---- a record that is whole in s is the same whatever stands behind s
pub fault-same : (due left : ℕ) (s t : List ℕ) → 1 + body_length due ≤ length s → record_fault due left (s ++ t) ≡ record_fault due left s
unfolding record_fault
fault-same due left [] t l = absurd (let no : ⊥ = omega arith in no)
fault-same due left (kind ∷ rest) t l =
    let enough : body_length due ≤ length rest = omega arith in
    let more : body_length due ≤ length (rest ++ t) = omega (arith, length-append rest t) in
    rw (
      take-append-le (body_length due) rest t enough,
      le-ltb (length rest) (body_length due) enough,
      le-ltb (length (rest ++ t)) (body_length due) more,
    )

pub body_same : (due : ℕ) (s t : List ℕ) → 1 + body_length due ≤ length s → body_of due (s ++ t) ≡ body_of due s
body_same due s t l =
    ap (take (body_length due)) (drop-append-le 1 s t (omega arith))
    ∙ take-append-le (body_length due) (drop 1 s) t (omega (arith, length-drop 1 s))
