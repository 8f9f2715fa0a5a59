-- A scan of a list by its elements: what is left to find and to count, by whether the next element passes the test; and tests of a list
-- that was mapped or filtered. Assumes nothing.
use Prim.Native.Nat.{ℕ, zero, suc, ◌+◌, ◌<◌, ◌≤◌}
use native.Mathlib.Nat.{not-suc-le-zero, le_of_suc-le-suc}
use native.Mathlib.Numerals.{add-one}
use native.Mathlib.Omega.{arith}
use mathlib.Core.Path.{◌≡◌, refl, ap, ◌∙◌}
use mathlib.Core.Bool.{Bool, true, false, not, cond, ◌||◌}
use mathlib.Core.List.{List, [], ◌∷◌, map}
use lib.ListN.{length, get_or, drop, drop_of_length-le, length-map}
use lib.Seq.{drop-cons}
use Rattle.lists.specs.Places.{any, keep, count}
use Rattle.lists.proofs.Places.{keep-le}

module _ {A : Type 0} (f : A → Bool) where
  -- ---- from the element i on
  module _ (l : List A) (i : ℕ) (d : A) (h : i < length l) where
    pub any_here : f (get_or l i d) ≡ true → any f (drop i l) ≡ true
    any_here e = rw (drop-cons l i d h, e)

    pub any-on : f (get_or l i d) ≡ false → any f (drop i l) ≡ any f (drop (i + 1) l)
    any-on e = rw (add-one, drop-cons l i d h, e)

    pub count-here : f (get_or l i d) ≡ true → count f (drop i l) ≡ suc (count f (drop (i + 1) l))
    unfolding count
    count-here e = rw (add-one, drop-cons l i d h, e)

    pub count-on : f (get_or l i d) ≡ false → count f (drop i l) ≡ count f (drop (i + 1) l)
    unfolding count
    count-on e = rw (add-one, drop-cons l i d h, e)

  pub any-none-left : (l : List A) (i : ℕ) → length l ≤ i → any f (drop i l) ≡ false
  any-none-left l i h = ap (any f) (drop_of_length-le l h)

  pub count-none-left : (l : List A) (i : ℕ) → length l ≤ i → count f (drop i l) ≡ 0
  unfolding count
  count-none-left l i h = ap (count f) (drop_of_length-le l h)

  -- ---- n of the first i elements pass
  pub record CountTo (l : List A) (n i : ℕ) : Type 0 where
    pub within : i ≤ length l
    pub most : n ≤ i
    pub sum : n + count f (drop i l) ≡ count f l

  pub count-start : (l : List A) → CountTo l 0 0
  count-start l = record { within = omega arith; most = omega arith; sum = omega arith }

  module _ (l : List A) (n i : ℕ) (c : CountTo l n i) where
    module _ (d : A) (h : i < length l) (n' : ℕ) where
      pub count-hit : n' ≡ n + 1 → f (get_or l i d) ≡ true → CountTo l n' (i + 1)
      count-hit q e = record { within = omega arith; most = omega (arith, c.most); sum = omega (arith, c.sum, count-here l i d h e) }

      pub count-miss : n' ≡ n → f (get_or l i d) ≡ false → CountTo l n' (i + 1)
      count-miss q e = record { within = omega arith; most = omega (arith, c.most); sum = omega (arith, c.sum, count-on l i d h e) }

    pub count-end : length l ≤ i → n ≡ count f l
    count-end h = omega (arith, c.sum, count-none-left l i h)

  -- ---- those that pass and those that do not, and where all pass
  pub count-rest : (l : List A) → count f l + count (λ a. not (f a)) l ≡ length l
  unfolding count
  count-rest [] = refl
  count-rest (a ∷ l) = pick (f a) (count-rest l)
    where
      pick : (b : Bool) → length (keep f l) + length (keep (λ a. not (f a)) l) ≡ length l
          → length (cond b (a ∷ keep f l) (keep f l)) + length
          (cond (not b) (a ∷ keep (λ a. not (f a)) l) (keep (λ a. not (f a)) l)) ≡ suc (length l)
      pick true e = omega arith
      pick false e = omega arith

  pub count-every : (l : List A) (i : ℕ) (d : A) → count f l ≡ length l → i < length l → f (get_or l i d) ≡ true
  unfolding count
  count-every [] i d e h = absurd (not-suc-le-zero h)
  count-every (a ∷ l) i d e h = pick (f a) refl i e h (λ k. count-every l k d) (keep-le f l)
    where
      pick : (b : Bool) → f a ≡ b → (i : ℕ) → length (cond b (a ∷ keep f l) (keep f l)) ≡ suc (length l) → i < suc (length l)
          → ((k : ℕ) → length (keep f l) ≡ length l → k < length l → f (get_or l k d) ≡ true) → length (keep f l) ≤ length l
          → f (get_or (a ∷ l) i d) ≡ true
      pick true p zero e h r m = p
      pick true p (suc i) e h r m = r i (omega arith) (le_of_suc-le-suc h)
      pick false p i e h r m = absurd (let no : ⊥ = omega arith in no)

  -- ---- of a list that was filtered
  -- none of those that were left out passes
  pub any-kept : (g : A → Bool) → ((a : A) → g a ≡ false → f a ≡ false) → (l : List A) → any f (keep g l) ≡ any f l
  any-kept g i [] = refl
  any-kept g i (a ∷ l) = pick (g a) (i a) (any-kept g i l)
    where
      pick : (b : Bool) → (b ≡ false → f a ≡ false) → any f (keep g l) ≡ any f l
          → any f (cond b (a ∷ keep g l) (keep g l)) ≡ (f a || any f l)
      pick true j e = ap (λ (t : Bool). f a || t) e
      pick false j e = rw (j refl) e

  -- those that were kept and those that were not
  count-cons : (a : A) (l : List A) → count f (a ∷ l) ≡ cond (f a) 1 0 + count f l
  unfolding count
  count-cons a l = pick (f a)
    where
      pick : (b : Bool) → length (cond b (a ∷ keep f l) (keep f l)) ≡ cond b 1 0 + length (keep f l)
      pick true = omega arith
      pick false = omega arith

  pub count_kept : (g : A → Bool) (l : List A) → count f l ≡ count f (keep g l) + count f (keep (λ a. not (g a)) l)
  count_kept g [] = unfold count in refl
  count_kept g (a ∷ l) = pick (g a) (count_kept g l)
    where
      pick : (b : Bool) → count f l ≡ count f (keep g l) + count f (keep (λ a. not (g a)) l)
          → count f (a ∷ l) ≡ count f (cond b (a ∷ keep g l) (keep g l)) + count f
          (cond (not b) (a ∷ keep (λ a. not (g a)) l) (keep (λ a. not (g a)) l))
      pick true e = omega (arith, count-cons a l, count-cons a (keep g l))
      pick false e = omega (arith, count-cons a l, count-cons a (keep (λ a. not (g a)) l))

-- ---- of a list that was mapped
module _ {A B : Type 0} (f : B → Bool) (g : A → B) where
  pub any-map : (l : List A) → any f (map g l) ≡ any (λ a. f (g a)) l
  any-map [] = refl
  any-map (a ∷ l) = ap (λ (t : Bool). f (g a) || t) (any-map l)

  pub keep-map : (l : List A) → keep f (map g l) ≡ map g (keep (λ a. f (g a)) l)
  keep-map [] = refl
  keep-map (a ∷ l) = pick (f (g a)) (keep-map l)
    where
      pick : (b : Bool) → keep f (map g l) ≡ map g (keep (λ a. f (g a)) l)
          → cond b (g a ∷ keep f (map g l)) (keep f (map g l)) ≡ map g (cond b (a ∷ keep (λ a. f (g a)) l) (keep (λ a. f (g a)) l))
      pick true e = ap (λ (k : List B). g a ∷ k) e
      pick false e = e

  pub count_map : (l : List A) → count f (map g l) ≡ count (λ a. f (g a)) l
  unfolding count
  count_map l = ap length (keep-map l) ∙ length-map (keep (λ a. f (g a)) l) g
