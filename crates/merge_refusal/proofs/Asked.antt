-- Whether a test passes, as `any` asks it of the members of a list or of the numbers below one. Assumes nothing.
use Rattle.std.proofs.Common.{ℕ, zero, suc, ◌≡◌, refl, sym, ap, ◌∙◌, Bool, ◌||◌, List, [], ◌∷◌, ◌++◌, map, arith}
use native.Mathlib.Numerals.{add-one}
use Rattle.std.specs.List.{list_any, range_with_len}
use Rattle.std.proofs.lemmas.List.FromFn.{map-range_with_len_more}
use Rattle.lists.specs.Places.{any}
use Rattle.lists.specs.Tab.{tab}

module _ {A : Type 0} (f : A → Bool) where
  pub any-listed : (l : List A) → list_any f l ≡ any f l
  any-listed [] = refl
  any-listed (a ∷ l) = ap (λ (b : Bool). f a || b) (any-listed l)

  module _ (h : ℕ → A) where
    counted-up : (n : ℕ) → map h (range_with_len 0 n) ≡ tab n h
    unfolding tab
    counted-up zero = refl
    counted-up (suc n) =
        ap (λ (k : ℕ). map h (range_with_len 0 k)) (sym (add-one n))
        ∙ map-range_with_len_more h 0 n n (omega arith)
        ∙ ap (λ (l : List A). l ++ (h n ∷ [])) (counted-up n)

    any-mapped : (l : List ℕ) → list_any (λ i. f (h i)) l ≡ any f (map h l)
    any-mapped [] = refl
    any-mapped (i ∷ l) = ap (λ (b : Bool). f (h i) || b) (any-mapped l)

    pub any-counted : (n : ℕ) → list_any (λ i. f (h i)) (range_with_len 0 n) ≡ any f (tab n h)
    any-counted n = any-mapped (range_with_len 0 n) ∙ ap (any f) (counted-up n)
