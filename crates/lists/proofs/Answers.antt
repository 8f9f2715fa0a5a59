-- An answer taken apart into its number and its values tells the answer again. Assumes nothing.
use Prim.Native.Nat.{ℕ, zero, suc, ◌<◌}
use native.Mathlib.Omega.{arith}
use mathlib.Core.Path.{◌≡◌, refl, sym, ap, ◌∙◌}
use mathlib.Core.List.{List}
use lib.ListN.{get_or}
use Rattle.lists.specs.Refusals.{values_unless, result_or}

-- an answer a with the number k, whose number is returned as r
module _ {A : Type 0} (number_of : A → ℕ) (a : A) (k : ℕ) (number : number_of a ≡ k) (r : ℕ) (returned : r ≡ number_of a) where
  -- it is that of r, where k determines it
  pub answer : (answer_by : ℕ → A) → a ≡ answer_by k → a ≡ answer_by r
  answer answer_by is = is ∙ ap answer_by (sym (returned ∙ number))

  -- and value i of it, or what was there before, is that of r
  pub value : {B : Type 0} (values_of : A → List B) (vs : List B) → values_of a ≡ values_unless k vs
      → (i : ℕ) (before x : B) → x ≡ get_or (values_of a) i before → x ≡ result_or r (get_or vs i before) before
  value values_of vs values i before x e =
      e ∙ ap (λ l. get_or l i before) (values ∙ ap (λ n. values_unless n vs) (sym (returned ∙ number))) ∙ go r
    where
      go : (n : ℕ) → get_or (values_unless n vs) i before ≡ result_or n (get_or vs i before) before
      go zero = refl
      go (suc n) = refl

-- a call that is refused leaves what was there before
pub refused-keeps : {A : Type 0} (n : ℕ) (result before : A) → 0 < n → result_or n result before ≡ before
refused-keeps zero result before p = absurd (omega (arith, p))
refused-keeps (suc n) result before p = refl
