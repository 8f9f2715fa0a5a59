-- Laws of answers by their numbers. Assumes nothing.
use Prim.Native.Nat.{ℕ, zero, suc, ◌<◌}
use native.Mathlib.Omega.{arith}
use mathlib.Core.Path.{◌≡◌, refl, sym, ap, ◌∙◌}
use mathlib.Core.Bool.{Bool, true, false}
use mathlib.Core.List.{List, [], ◌∷◌, ◌++◌}
use Rattle.std.proofs.lemmas.Result.{err_from_is_err_and}
use Rattle.std.specs.Prelude.{Result, IsErrAnd, Ok, Err}
use Rattle.std.specs.Result.{result_unwrap_or, is_ok, is_err}
use Rattle.lists.specs.declared.refusal.Refusal.{Refusal}
use Rattle.lists.specs.Places.{All}
use Rattle.lists.specs.Refusals.{lowest, refusal_number, refusal_with, number_of, values_by, values_unless, judged, verdict, result_or}

-- a number is that of a refusal, or 0
abbrev pub Known : ℕ → Type 0
Known n = number_of (judged n n) ≡ n

-- a refusal has one
pub refused-above : (e : Refusal) → refusal_number e ≡ 0 → ⊥
refused-above e p = grind arith

-- then it is the number of the answer with it, whose values are those of what is due, if it is 0
pub number-judged : {A : Type 0} {r : Result A Refusal} (n : ℕ) (due : A) → r ≡ judged n due → Known n → number_of r ≡ n
number-judged zero due e k = ap number_of e
number-judged (suc n) due e k = ap number_of e ∙ k

pub values-judged : {A B : Type 0} {r : Result A Refusal} (values : A → List B) (n : ℕ) (due : A) → r ≡ judged n due
    → values_by values r ≡ values_unless n (values due)
values-judged values zero due e = ap (values_by values) e
values-judged values (suc n) due e = ap (values_by values) e

-- the number of a table is one of its own, or 0
pub lowest-known : (cs : List (Bool × ℕ)) → All (λ c. Known c.1) cs → Known (lowest cs)
lowest-known [] h = refl
lowest-known ((true, n) ∷ cs) h = h.0
lowest-known ((false, n) ∷ cs) h = lowest-known cs h.1

-- an answer that is not refused: its number is 0, and it is what is due
pub judged-ok : {A : Type 0} (n : ℕ) (due v : A) → Ok v ≡ judged n due → (n ≡ 0) × (v ≡ due)
judged-ok zero due v p = (refl, grind arith)
judged-ok (suc n) due v p = absurd (let no : ⊥ = grind arith in no)

-- a refused one: any answer with its number is refused so
pub judged-err : {A B : Type 0} (n : ℕ) (due : A) (other : B) (e : Refusal) → Err e ≡ judged n due → Err e ≡ judged n other
judged-err zero due other e p = absurd (let no : ⊥ = grind arith in no)
judged-err (suc n) due other e p = grind arith

-- its number is not 0
pub refused-some : {A : Type 0} (n : ℕ) (due : A) (e : Refusal) → Err e ≡ judged n due → n ≡ 0 → ⊥
refused-some zero due e p z = grind arith
refused-some (suc n) due e p z = omega (arith, z)

-- it has no values
pub values-refused : {A B : Type 0} (n : ℕ) (due : A) (e : Refusal) (values : List B) → Err e ≡ judged n due
    → [] ≡ values_unless n values
values-refused zero due e values p = absurd (let no : ⊥ = grind arith in no)
values-refused (suc n) due e values p = refl

-- and a buffer is as it was
pub refused-stays : {A B : Type 0} (n : ℕ) (due : A) (e : Refusal) (after before : B) → Err e ≡ judged n due
    → result_or n after before ≡ before
refused-stays zero due e after before p = absurd (let no : ⊥ = grind arith in no)
refused-stays (suc n) due e after before p = refl

-- so is that of a table that begins with the conditions
pub judged-first : {A B : Type 0} (cs ds : List (Bool × ℕ)) (due : A) (other : B) (e : Refusal)
    → Err e ≡ judged (lowest cs) due → Err e ≡ judged (lowest (cs ++ ds)) other
judged-first [] ds due other e p = absurd (let no : ⊥ = grind arith in no)
judged-first ((true, n) ∷ cs) ds due other e p = judged-err n due other e p
judged-first ((false, n) ∷ cs) ds due other e p = judged-first cs ds due other e p

-- ---- a refusal that is passed on by `?`
pub passed-on : {A : Type 0} {e : Refusal} (r : Result A Refusal) → IsErrAnd r (λ y. y ≡ e) → r ≡ Err e
passed-on r h = let p = err_from_is_err_and r h in p.1 ∙ ap Err p.2

-- ---- the refusal with a number, and the number of a refusal
pub with-number : (e : Refusal) → refusal_with (refusal_number e) ≡ e
with-number e = grind arith

pub number-with : (n : ℕ) → 0 < n → Known n → refusal_number (refusal_with n) ≡ n
number-with zero l k = absurd (let no : ⊥ = omega (arith, l) in no)
number-with (suc n) l k = k

-- ---- an answer told by its number: the answer with that number
pub judged-number : {A : Type 0} (e : Refusal) (due : A) → judged (refusal_number e) due ≡ Err e
judged-number e due = grind arith

pub told : {A : Type 0} (r : Result A Refusal) (n : ℕ) (due : A) → r ≡ judged n due → r ≡ judged (number_of r) due
told (Ok v) n due e = let q = judged-ok n due v e in ap Ok q.1
told (Err f) n due e = sym (judged-number f due)

-- and its value, or what was there before
pub told-value : {A : Type 0} (r : Result A Refusal) (n : ℕ) (due before : A) → r ≡ judged n due
    → result_unwrap_or r before ≡ result_or (number_of r) due before
told-value (Ok v) n due before e = (judged-ok n due v e).1
told-value (Err f) n due before e = grind arith

-- ---- a check that is tested by `is_err`
pub checked-err : (n : ℕ) (r : Result (Unit {0}) Refusal) → r ≡ verdict n → is_err r ≡ true → n ≡ 0 → ⊥
checked-err zero r e t z = grind arith
checked-err (suc n) r e t z = omega (arith, z)

pub checked-ok : (n : ℕ) (r : Result (Unit {0}) Refusal) → r ≡ verdict n → is_err r ≡ false → n ≡ 0
checked-ok zero r e t = refl
checked-ok (suc n) r e t = absurd (let no : ⊥ = grind arith in no)

-- ---- an answer that is tested by `is_ok`
pub tested-ok : {A : Type 0} (r : Result A Refusal) → is_ok r ≡ true → number_of r ≡ 0
tested-ok (Ok v) t = refl
tested-ok (Err e) t = absurd (let no : ⊥ = grind arith in no)

pub tested-err : {A : Type 0} (r : Result A Refusal) → is_ok r ≡ false → number_of r ≡ 0 → ⊥
tested-err (Ok v) t z = grind arith
tested-err (Err e) t z = refused-above e z
