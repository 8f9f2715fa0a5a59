-- Rows and blocks in two parts, and a test that one place passes. Assumes nothing.
use Prim.Native.Nat.{ℕ, zero, suc, ◌+◌, ◌-◌, ◌<◌, ◌≤◌}
use native.Mathlib.Nat.{zero-add, add-zero, suc-add, add-suc}
use native.Mathlib.Omega.{arith}
use mathlib.Core.Path.{◌≡◌, refl, ap, ◌∙◌}
use mathlib.Core.Bool.{Bool, true, false}
use mathlib.Core.List.{List, [], ◌∷◌, ◌++◌, map, map-append, append_assoc}
use Rattle.lists.specs.Places.{Place, counted, range, row, rows_from, block, keep, All}
use Rattle.lists.proofs.Places.{row_step, block-step, keep_append}
use Rattle.lists.proofs.Members.{all_row, all-block}

-- ---- in two parts

pub counted-add : (a n k : ℕ) → counted a (n + k) ≡ counted a n ++ counted (a + n) k
unfolding counted
counted-add a zero k = rw (zero-add, add-zero)
counted-add a (suc n) k = rw (suc-add, add-suc, ← suc-add) (ap (λ (l : List ℕ). a ∷ l) (counted-add (suc a) n k))

range_split : (a x b : ℕ) → a ≤ x → x ≤ b → range a b ≡ range a x ++ range x b
unfolding range
range_split a x b p q =
    let e : b - a ≡ (x - a) + (b - x) = omega arith in
    let z : a + (x - a) ≡ x = omega arith in
    ap (counted a) e ∙ counted-add a (x - a) (b - x) ∙ ap (λ (k : ℕ). counted a (x - a) ++ counted k (b - x)) z

pub row-split : (y a x b : ℕ) → a ≤ x → x ≤ b → row y a b ≡ row y a x ++ row y x b
unfolding row
row-split y a x b p q = ap (map (λ (k : ℕ). record { x = k; y = y })) (range_split a x b p q) ∙ map-append _ (range a x) (range x b)

rows_append : (a b : ℕ) (s t : List ℕ) → rows_from a b (s ++ t) ≡ rows_from a b s ++ rows_from a b t
unfolding rows_from
rows_append a b [] t = refl
rows_append a b (y ∷ s) t = rw (rows_append a b s t, append_assoc)

pub block-split : (a b c y d : ℕ) → c ≤ y → y ≤ d → block a b c d ≡ block a b c y ++ block a b y d
unfolding block
block-split a b c y d p q = ap (rows_from a b) (range_split c y d p q) ∙ rows_append a b (range c y) (range y d)

-- ---- a test that one place of a block passes
keep-none : {A : Type 0} (g : A → Bool) (l : List A) → All (λ a. g a ≡ false) l → keep g l ≡ []
keep-none g [] h = refl
keep-none g (a ∷ l) h = rw h.0 (keep-none g l h.1)

pub keep-only : (g : Place → Bool) (a b c d x y : ℕ) → g (record { x = x; y = y }) ≡ true
    → ((u v : ℕ) → (u ≡ x → v ≡ y → ⊥) → g (record { x = u; y = v }) ≡ false)
    → a ≤ x → x < b → c ≤ y → y < d → keep g (block a b c d) ≡ record { x = x; y = y } ∷ []
keep-only g a b c d x y here other p q r s =
    let above = keep-none g (block a b c y)
    (all-block (λ t. g t ≡ false) a b c y (λ u v _ _ _ k. other u v (λ _ e. let no : ⊥ = omega arith in no))) in
    let left = keep-none g (row y a x) (all_row (λ t. g t ≡ false) y a x (λ u _ k. other u y (λ e _. let no : ⊥ = omega arith in no))) in
    let right = keep-none g (row y (x + 1) b)
    (all_row (λ t. g t ≡ false) y (x + 1) b (λ u k _. other u y (λ e _. let no : ⊥ = omega arith in no))) in
    let below = keep-none g (block a b (y + 1) d)
    (all-block (λ t. g t ≡ false) a b (y + 1) d (λ u v _ _ k _. other u v (λ _ e. let no : ⊥ = omega arith in no))) in
    rw (block-split a b c y d r (omega arith), block-step a b y d s, row-split y a x b p (omega arith), row_step y x b q)
    (simp (keep_append, above, left, right, below, here))
