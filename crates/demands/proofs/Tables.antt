-- Laws of numbered conditions. Assumes nothing.
use Prim.Native.Nat.{ℕ, ◌<◌}
use native.Mathlib.Omega.{arith}
use mathlib.Core.Path.{◌≡◌, refl, sym, ap, ◌∙◌, subst}
use mathlib.Core.Logic.{inl, inr, ⊎_elim}
use mathlib.Core.Bool.{Bool, true, false, cond, ◌&&◌}
use mathlib.Core.List.{List, [], ◌∷◌, map}
use lib.Dec.{eqb}
use borrow.Author.Tests.{eqb-true}
use Rattle.lists.specs.Places.{any}
use Rattle.std.specs.Prelude.{Result}
use Rattle.lists.specs.declared.refusal.Refusal.{Refusal}
use Rattle.lists.specs.Refusals.{lowest, refusal_number, number_of}
use Rattle.lists.proofs.Judged.{refused-above}
use Rattle.lists.proofs.Tests.{and_parts, or-either}
use Rattle.demands.specs.Numbers.{OneOf, Refuses}

-- ---- one of a list

-- by computation
pub listed : (n : ℕ) (ns : List ℕ) → any (eqb n) ns ≡ true → OneOf n ns
listed n [] e = absurd (let z : ◌≡◌ {A = Bool} false true = e in let y : ◌≡◌ {A = ℕ} 0 1 = cc in omega arith)
listed n (k ∷ ns) e = ⊎_elim (λ h. inl (eqb-true n k h)) (λ h. inr (listed n ns h)) (or-either (eqb n k) (any (eqb n) ns) e)

-- of another list that has each of its members
abbrev within : List ℕ → List ℕ → Bool
within [] ms = true
within (k ∷ ns) ms = any (eqb k) ms && within ns ms

pub widen : (n : ℕ) (ns ms : List ℕ) → within ns ms ≡ true → OneOf n ns → OneOf n ms
widen n [] ms e o = absurd o
widen n (k ∷ ns) ms e o =
    let both = and_parts (any (eqb k) ms) (within ns ms) e in
    ⊎_elim (λ same. subst (λ (j : ℕ). OneOf j ms) (sym same) (listed k ms both.0)) (widen n ns ms both.1) o

-- a table gives 0 or one of its numbers
lowest-one : (cs : List (Bool × ℕ)) → OneOf (lowest cs) (0 ∷ map (λ c. c.1) cs)
lowest-one [] = inl refl
lowest-one ((true, n) ∷ cs) = inr (inl refl)
lowest-one ((false, n) ∷ cs) = ⊎_elim inl (λ o. inr (inr o)) (lowest-one cs)

pub above_zero : (n : ℕ) (ns : List ℕ) → OneOf n (0 ∷ ns) → 0 < n → OneOf n ns
above_zero n ns o l = ⊎_elim (λ z. absurd (let no : ⊥ = omega arith in no)) (λ q. q) o

pub numbered-one : (cs : List (Bool × ℕ)) (k : ℕ) → k ≡ lowest cs → 0 < k → OneOf k (map (λ c. c.1) cs)
numbered-one cs k e l = above_zero k (map (λ c. c.1) cs) (subst (λ (j : ℕ). OneOf j (0 ∷ map (λ c. c.1) cs)) (sym e) (lowest-one cs)) l

-- an answer with a table's number
pub refused-one : {A : Type 0} (cs : List (Bool × ℕ)) (r : Result A Refusal) → number_of r ≡ lowest cs → Refuses (map (λ c. c.1) cs) r
refused-one cs r n e q =
    let above : 0 < refusal_number e = omega (arith, refused-above e) in
    numbered-one cs (refusal_number e) (sym (ap number_of q) ∙ n) above
