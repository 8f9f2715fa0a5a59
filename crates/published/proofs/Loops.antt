-- Nested loops over columns and rows as lists: what they gather where some turns give nothing, and that they go over a block in row order.
-- Assumes nothing.
use mathlib.Core.Path.{◌≡◌, refl, sym, ap, ap₂, ◌∙◌}
use mathlib.Core.Bool.{Bool, true, false, cond}
use mathlib.Core.List.{List, [], ◌∷◌, ◌++◌, map, append-nil}
use Prim.Native.Nat.{ℕ, zero, suc, ◌+◌, ◌-◌, ◌*◌, ◌≤◌, ◌<◌, min}
use native.Mathlib.Omega.{arith}
use Rattle.lists.specs.Places.{Place, counted, range, row, rows_from, block, keep, flat_map}
use Rattle.lists.proofs.Members.{flat_map-append}
use Rattle.lists.proofs.Parts.{counted-add}

module _ {A B : Type 0} where
  pub flat-map : {C : Type 0} (f : B → List C) (g : A → B) (l : List A) → flat_map f (map g l) ≡ flat_map (λ a. f (g a)) l
  flat-map f g [] = refl
  flat-map f g (a ∷ l) = ap (λ (t : List _). f (g a) ++ t) (flat-map f g l)

module _ {B : Type 0} where
  -- two loops of n turns that gather the same
  pub counted-alike : (f g : ℕ → List B) (n a b : ℕ) → ((k : ℕ) → k < n → f (a + k) ≡ g (b + k))
      → flat_map f (counted a n) ≡ flat_map g (counted b n)
  unfolding counted
  counted-alike f g zero a b h = refl
  counted-alike f g (suc n) a b h =
      let first : f a ≡ g b = ap f (omega arith) ∙ h 0 (omega arith) ∙ ap g (omega arith) in
      ap₂ (λ (s t : List B). s ++ t) first
      (counted-alike f g n (suc a) (suc b) (λ k l. ap f (omega arith) ∙ h (suc k) (omega arith) ∙ ap g (omega arith)))

  pub counted_none : (f : ℕ → List B) (n a : ℕ) → ((k : ℕ) → k < n → f (a + k) ≡ []) → flat_map f (counted a n) ≡ []
  unfolding counted
  counted_none f zero a h = refl
  counted_none f (suc n) a h =
      let first : f a ≡ [] = ap f (omega arith) ∙ h 0 (omega arith) in
      rw (first, counted_none f n (suc a) (λ k l. ap f (omega arith) ∙ h (suc k) (omega arith)))

  -- n turns from place a on, all the others give nothing: the loop from b on
  pub part-only : (f g : ℕ → List B) (before n behind b : ℕ) → ((i : ℕ) → i < before → f i ≡ [])
      → ((k : ℕ) → k < n → f (before + k) ≡ g (b + k))
      → ((i : ℕ) → before + n ≤ i → i < before + n + behind → f i ≡ [])
      → flat_map f (counted 0 (before + n + behind)) ≡ flat_map g (counted b n)
  part-only f g before n behind b low here high =
      ap (flat_map f) (counted-add 0 (before + n) behind
      ∙ ap (λ (l : List ℕ). l ++ counted (0 + (before + n)) behind) (counted-add 0 before n))
      ∙ flat_map-append f (counted 0 before ++ counted (0 + before) n) (counted (0 + (before + n)) behind)
      ∙ ap₂ (λ (s t : List B). s ++ t) (flat_map-append f (counted 0 before) (counted (0 + before) n))
      (counted_none f behind (0 + (before + n)) (λ k l. high _ (omega arith) (omega arith)))
      ∙ append-nil _
      ∙ ap₂ (λ (s t : List B). s ++ t) (counted_none f before 0 (λ k l. low _ (omega arith)))
      (counted-alike f g n (0 + before) b (λ k l. ap f (omega arith) ∙ here k l))

-- ---- r turns to either side of x, of which those from 0 up to w count
module _ (r x w : ℕ) where
  abbrev turns : ℕ
  turns = min (x + r + 1) w - (x - r)

  all-turns : 2 * r + 1 - 0 ≡ r - x + turns + (2 * r + 1 - (r - x + turns))
  all-turns = let most : r - x + turns ≤ 2 * r + 1 = omega arith in omega arith

  turn_in : (k : ℕ) → k < turns → x + (r - x + k) < w + r
  turn_in k l = omega arith

  turn-past : (i : ℕ) → r - x + turns ≤ i → i < 2 * r + 1 → w + r ≤ x + i
  turn-past i l m = omega arith

  turn_is : (k : ℕ) → x + (r - x + k) - r ≡ x - r + k
  turn_is k = omega arith

  pub clipped : {B : Type 0} (f g : ℕ → List B) → ((i : ℕ) → x + i < r → f i ≡ []) → ((i : ℕ) → i < 2 * r + 1 → w + r ≤ x + i → f i ≡ [])
      → ((i : ℕ) → r ≤ x + i → x + i < w + r → f i ≡ g (x + i - r))
      → flat_map f (range 0 (2 * r + 1)) ≡ flat_map g (range (x - r) (min (x + r + 1) w))
  unfolding range
  clipped f g low high here =
      ap (λ (k : ℕ). flat_map f (counted 0 k)) all-turns
      ∙ part-only f g (r - x) turns (2 * r + 1 - (r - x + turns)) (x - r) (λ i l. low i (omega arith))
      (λ k l. here (r - x + k) (omega arith) (turn_in k l) ∙ ap g (turn_is k))
      (λ i l m. high i (rest i m) (turn-past i l (rest i m)))
    where
      rest : (i : ℕ) → i < r - x + turns + (2 * r + 1 - (r - x + turns)) → i < 2 * r + 1
      rest i m = omega (arith, all-turns)

-- a loop over columns in one over rows goes over the block in row order
module _ {B : Type 0} (f : Place → List B) (a b : ℕ) where
  rows-rows : (ys : List ℕ) → flat_map (λ y. flat_map (λ x. f (record { x = x; y = y })) (range a b)) ys ≡ flat_map f (rows_from a b ys)
  unfolding rows_from row
  rows-rows [] = refl
  rows-rows (y ∷ ys) =
      ap₂ (λ (s t : List B). s ++ t) (sym (flat-map f (λ (x : ℕ). record { x = x; y = y }) (range a b))) (rows-rows ys)
      ∙ sym (flat_map-append f (row y a b) (rows_from a b ys))

  pub rows-block : (c d : ℕ) → flat_map (λ y. flat_map (λ x. f (record { x = x; y = y })) (range a b)) (range c d)
      ≡ flat_map f (block a b c d)
  unfolding block
  rows-block c d = rows-rows (range c d)

-- a loop that passes over some
pub flat_keep : {A B : Type 0} (f : A → Bool) (g : A → B) (l : List A) → flat_map (λ a. cond (f a) (g a ∷ []) []) l ≡ map g (keep f l)
flat_keep f g [] = refl
flat_keep {A} {B} f g (a ∷ l) = go (f a) (flat_keep f g l)
  where
    go : (b : Bool) → flat_map (λ a. cond (f a) (g a ∷ []) []) l ≡ map g (keep f l)
        → cond b (g a ∷ []) [] ++ flat_map (λ a. cond (f a) (g a ∷ []) []) l ≡ map g (cond b (a ∷ keep f l) (keep f l))
    go true e = ap (λ (t : List B). g a ∷ t) e
    go false e = e

-- and one that takes each
pub flat-each : {A : Type 0} (l : List A) → flat_map (λ a. a ∷ []) l ≡ l
flat-each [] = refl
flat-each {A} (a ∷ l) = ap (λ (t : List A). a ∷ t) (flat-each l)
