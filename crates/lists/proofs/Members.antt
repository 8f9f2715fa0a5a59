-- A fact of each member of a list, of each place of a block, and filters of one list by two tests. Assumes nothing.
use Prim.Native.Nat.{ℕ, zero, suc, ◌+◌, ◌-◌, ◌*◌, ◌<◌, ◌≤◌}
use native.Mathlib.Omega.{arith}
use native.Mathlib.Nat.{eq-or-lt_of_le, le_of_suc-le-suc, not-suc-le-zero, mul-add}
use mathlib.Core.Path.{◌≡◌, refl, sym, ap, ap₂, ◌∙◌, subst}
use mathlib.Core.Logic.{⊎_elim}
use mathlib.Core.Bool.{Bool, true, false, cond, ◌||◌, false≢true}
use mathlib.Core.List.{List, [], ◌∷◌, ◌++◌, map, append_assoc, tail-eq_of_cons-eq}
use lib.ListN.{length, get_or}
use Rattle.lists.specs.Tab.{tab, grid}
use Rattle.lists.specs.Places.{Place, counted, range, row, rows_from, block, any, keep, flat_map, sum_of, All}
use Rattle.lists.proofs.Tests.{is_false, or-neither}

-- ---- each member

module _ {A : Type 0} where
  pub all_append : (P : A → Type 0) (s t : List A) → All P s → All P t → All P (s ++ t)
  all_append P [] t hs ht = ht
  all_append P (a ∷ s) t hs ht = (hs.0, all_append P s t hs.1 ht)

  pub all_left : (P : A → Type 0) (s t : List A) → All P (s ++ t) → All P s
  all_left P [] t h = tt
  all_left P (a ∷ s) t h = (h.0, all_left P s t h.1)

  pub all_right : (P : A → Type 0) (s t : List A) → All P (s ++ t) → All P t
  all_right P [] t h = h
  all_right P (a ∷ s) t h = all_right P s t h.1

  pub all_map : (P Q : A → Type 0) → ((a : A) → P a → Q a) → (l : List A) → All P l → All Q l
  all_map P Q f [] h = tt
  all_map P Q f (a ∷ l) h = (f a h.0, all_map P Q f l h.1)

  pub all_both : (P Q : A → Type 0) (l : List A) → All P l → All Q l → All (λ a. P a × Q a) l
  all_both P Q [] h k = tt
  all_both P Q (a ∷ l) h k = ((h.0, k.0), all_both P Q l h.1 k.1)

  -- those that pass a test
  pub all_keep : (P : A → Type 0) (f : A → Bool) (l : List A) → All P l → All (λ a. P a × (f a ≡ true)) (keep f l)
  all_keep P f [] h = tt
  all_keep P f (a ∷ l) h = pick (f a) refl (all_keep P f l h.1)
    where
      pick : (b : Bool) → f a ≡ b → All (λ a. P a × (f a ≡ true)) (keep f l)
          → All (λ a. P a × (f a ≡ true)) (cond b (a ∷ keep f l) (keep f l))
      pick true e k = ((h.0, e), k)
      pick false e k = k

  -- no member passes a test, as a Bool and as a fact of each
  pub none_any : (f : A → Bool) (l : List A) → All (λ a. f a ≡ true → ⊥) l → any f l ≡ false
  none_any f [] h = refl
  none_any f (a ∷ l) h = ap₂ (λ (x y : Bool). x || y) (is_false (f a) h.0) (none_any f l h.1)

  pub any_none : (f : A → Bool) (l : List A) → any f l ≡ false → All (λ a. f a ≡ true → ⊥) l
  any_none f [] e = tt
  any_none f (a ∷ l) e = let q = or-neither (f a) (any f l) e in (λ z. false≢true (sym q.0 ∙ z), any_none f l q.1)

  -- what every member has
  pub all_of : (P : A → Type 0) → ((a : A) → P a) → (l : List A) → All P l
  all_of P f [] = tt
  all_of P f (a ∷ l) = (f a, all_of P f l)

  -- the member at a place
  pub all-at : (P : A → Type 0) (l : List A) → All P l → (i : ℕ) (d : A) → i < length l → P (get_or l i d)
  all-at P [] h i d k = absurd (not-suc-le-zero k)
  all-at P (a ∷ l) h zero d k = h.0
  all-at P (a ∷ l) h (suc i) d k = all-at P l h.1 i d (le_of_suc-le-suc k)

pub all-mapped : {A B : Type 0} (P : B → Type 0) (g : A → B) (l : List A) → All (λ a. P (g a)) l → All P (map g l)
all-mapped P g [] h = tt
all-mapped P g (a ∷ l) h = (h.0, all-mapped P g l h.1)

pub all-unmapped : {A B : Type 0} (P : B → Type 0) (g : A → B) (l : List A) → All P (map g l) → All (λ a. P (g a)) l
all-unmapped P g [] h = tt
all-unmapped P g (a ∷ l) h = (h.0, all-unmapped P g l h.1)

-- the members of two lists, by what a function makes of them that tells them apart
pub map-only : {A B : Type 0} (f : A → B) (P : A → Type 0) → ((a b : A) → P a → P b → f a ≡ f b → a ≡ b) → (s t : List A) → All P s
    → All P t → map f s ≡ map f t → s ≡ t
map-only f P only [] [] p q e = refl
map-only f P only [] (b ∷ t) p q e = absurd (let no : ⊥ = omega (arith, ap length e) in no)
map-only f P only (a ∷ s) [] p q e = absurd (let no : ⊥ = omega (arith, ap length e) in no)
map-only f P only (a ∷ s) (b ∷ t) p q e =
    let head : f a ≡ f b = cc in
    let rest : map f s ≡ map f t = cc in
    rw (only a b p.0 q.0 head, map-only f P only s t p.1 q.1 rest)

-- ---- sums of a number of each member

module _ {A : Type 0} (X : A → ℕ) where
  pub sum-weighted : (Y : A → ℕ) (k : ℕ) (l : List A) → All (λ a. X a ≤ k * Y a) l → sum_of X l ≤ k * sum_of Y l
  sum-weighted Y k [] h = omega arith
  sum-weighted Y k (a ∷ l) h = omega (arith, h.0, sum-weighted Y k l h.1, mul-add k (Y a) (sum_of Y l))

  pub sum-none : (l : List A) → sum_of X l ≡ 0 → All (λ a. X a ≡ 0) l
  sum-none [] e = tt
  sum-none (a ∷ l) e = (omega arith, sum-none l (omega arith))

-- ---- the lists of each member

module _ {A B : Type 0} where
  pub flat_map-append : (f : A → List B) (s t : List A) → flat_map f (s ++ t) ≡ flat_map f s ++ flat_map f t
  flat_map-append f [] t = refl
  flat_map-append f (a ∷ s) t =
      ap (λ (l : List B). f a ++ l) (flat_map-append f s t) ∙ sym (append_assoc (f a) (flat_map f s) (flat_map f t))

  pub flat_map-alike : (f g : A → List B) (l : List A) → All (λ a. f a ≡ g a) l → flat_map f l ≡ flat_map g l
  flat_map-alike f g [] h = refl
  flat_map-alike f g (a ∷ l) h = ap₂ (λ (s t : List B). s ++ t) h.0 (flat_map-alike f g l h.1)

  -- one for each
  pub flat_map-single : (f : A → List B) (g : A → B) (l : List A) → All (λ a. f a ≡ g a ∷ []) l → flat_map f l ≡ map g l
  flat_map-single f g [] h = refl
  flat_map-single f g (a ∷ l) h = ap₂ (λ (s t : List B). s ++ t) h.0 (flat_map-single f g l h.1)

-- a fact of each of their members
module _ {A B : Type 0} (P : B → Type 0) (f : A → List B) where
  pub all-flat : (l : List A) → All (λ a. All P (f a)) l → All P (flat_map f l)
  all-flat [] h = tt
  all-flat (a ∷ l) h = all_append P (f a) (flat_map f l) h.0 (all-flat l h.1)

  pub all-unflat : (l : List A) → All P (flat_map f l) → All (λ a. All P (f a)) l
  all-unflat [] h = tt
  all-unflat (a ∷ l) h = (all_left P (f a) (flat_map f l) h, all-unflat l (all_right P (f a) (flat_map f l) h))

-- ---- each element of a list that a function gives

pub all-tab : {A : Type 0} (P : A → Type 0) (n : ℕ) (f : ℕ → A) → ((k : ℕ) → k < n → P (f k)) → All P (tab n f)
unfolding tab
all-tab P zero f h = tt
all-tab P (suc n) f h = all_append P (tab n f) (f n ∷ []) (all-tab P n f (λ k l. h k (omega arith))) (h n (omega arith), tt)

pub all-grid : {A : Type 0} (P : A → Type 0) (w h : ℕ) (f : ℕ → ℕ → A) → ((x y : ℕ) → x < w → y < h → P (f x y)) → All P (grid w h f)
unfolding grid
all-grid P w zero f p = tt
all-grid P w (suc h) f p =
    all_append P (grid w h f) (tab w (λ x. f x h)) (all-grid P w h f (λ x y i j. p x y i (omega arith)))
    (all-tab P w (λ x. f x h) (λ x i. p x h i (omega arith)))

-- ---- each place of a block, by its column and row

all-counted : (P : ℕ → Type 0) (a n : ℕ) → ((k : ℕ) → a ≤ k → k < a + n → P k) → All P (counted a n)
unfolding counted
all-counted P a zero f = tt
all-counted P a (suc n) f = (f a (omega arith) (omega arith), all-counted P (suc a) n (λ k p q. f k (omega arith) (omega arith)))

at-counted : (P : ℕ → Type 0) (a n : ℕ) → All P (counted a n) → (k : ℕ) → a ≤ k → k < a + n → P k
unfolding counted
at-counted P a zero h k p q = absurd (let no : ⊥ = omega arith in no)
at-counted P a (suc n) h k p q =
    ⊎_elim (λ e. subst P e h.0) (λ l. at-counted P (suc a) n h.1 k l (omega arith)) (eq-or-lt_of_le p)

module _ (P : Place → Type 0) where
  pub all_row : (y a b : ℕ) → ((x : ℕ) → a ≤ x → x < b → P (record { x = x; y = y })) → All P (row y a b)
  unfolding row range
  all_row y a b f =
      all-mapped P (λ x. record { x = x; y = y }) (counted a (b - a))
      (all-counted (λ x. P (record { x = x; y = y })) a (b - a) (λ k p q. f k p (omega arith)))

  at_row : (y a b : ℕ) → All P (row y a b) → (x : ℕ) → a ≤ x → x < b → P (record { x = x; y = y })
  unfolding row range
  at_row y a b h x p q =
      at-counted (λ x. P (record { x = x; y = y })) a (b - a)
      (all-unmapped P (λ x. record { x = x; y = y }) (counted a (b - a)) h) x p (omega arith)

  all-rows : (a b : ℕ) (ys : List ℕ) → All (λ y. All P (row y a b)) ys → All P (rows_from a b ys)
  unfolding rows_from
  all-rows a b [] h = tt
  all-rows a b (y ∷ ys) h = all_append P (row y a b) (rows_from a b ys) h.0 (all-rows a b ys h.1)

  at_rows : (a b : ℕ) (ys : List ℕ) → All P (rows_from a b ys) → All (λ y. All P (row y a b)) ys
  unfolding rows_from
  at_rows a b [] h = tt
  at_rows a b (y ∷ ys) h = (all_left P (row y a b) (rows_from a b ys) h, at_rows a b ys (all_right P (row y a b) (rows_from a b ys) h))

  pub all-block : (a b c d : ℕ) → ((x y : ℕ) → a ≤ x → x < b → c ≤ y → y < d → P (record { x = x; y = y })) → All P (block a b c d)
  unfolding block range
  all-block a b c d f =
      all-rows a b (counted c (d - c))
      (all-counted (λ y. All P (row y a b)) c (d - c) (λ y p q. all_row y a b (λ x s t. f x y s t p (omega arith))))

  pub at_block : (a b c d : ℕ) → All P (block a b c d) → (x y : ℕ) → a ≤ x → x < b → c ≤ y → y < d → P (record { x = x; y = y })
  unfolding block range
  at_block a b c d h x y s t p q =
      at_row y a b (at-counted (λ y. All P (row y a b)) c (d - c) (at_rows a b (counted c (d - c)) h) y p (omega arith)) x s t

-- ---- filters of one list by two tests

abbrev pub Implies : {A : Type 0} → (A → Bool) → (A → Bool) → A → Type 0
Implies f g a = f a ≡ true → g a ≡ true

module _ {A : Type 0} (f g : A → Bool) where
  -- tests that agree leave the same list
  pub keep-alike : (l : List A) → All (λ a. f a ≡ g a) l → keep f l ≡ keep g l
  keep-alike [] h = refl
  keep-alike (a ∷ l) h = ap₂ (λ (b : Bool) (k : List A). cond b (a ∷ k) k) h.0 (keep-alike l h.1)

  -- a test that implies another passes at no more members
  pub keep-fewer : (l : List A) → All (Implies f g) l → length (keep f l) ≤ length (keep g l)
  keep-fewer [] h = omega arith
  keep-fewer (a ∷ l) h = pick (f a) (g a) h.0 (keep-fewer l h.1)
    where
      pick : (b c : Bool) → (b ≡ true → c ≡ true) → length (keep f l) ≤ length (keep g l)
          → length (cond b (a ∷ keep f l) (keep f l)) ≤ length (cond c (a ∷ keep g l) (keep g l))
      pick true true i h = omega arith
      pick true false i h = absurd (false≢true (i refl))
      pick false true i h = omega arith
      pick false false i h = h

  pub any-more : (l : List A) → All (Implies f g) l → any f l ≡ true → any g l ≡ true
  any-more [] h e = e
  any-more (a ∷ l) h e = pick (f a) (g a) h.0 (any-more l h.1) e
    where
      pick : (b c : Bool) → (b ≡ true → c ≡ true) → (any f l ≡ true → any g l ≡ true) → (b || any f l) ≡ true → (c || any g l) ≡ true
      pick true true i r e = refl
      pick true false i r e = absurd (false≢true (i refl))
      pick false true i r e = refl
      pick false false i r e = r e

  -- where one test implies another, the two lists are alike exactly if the other implies it too
  pub alike-only : (l : List A) → All (Implies f g) l → keep f l ≡ keep g l → All (Implies g f) l
  alike-only [] h e = tt
  alike-only (a ∷ l) h e =
      let r : (g a ≡ true → f a ≡ true) × (keep f l ≡ keep g l) = pick (f a) (g a) h.0 (keep-fewer l h.1) e in
      (r.0, alike-only l h.1 r.1)
    where
      pick : (b c : Bool) → (b ≡ true → c ≡ true) → length (keep f l) ≤ length (keep g l)
          → cond b (a ∷ keep f l) (keep f l) ≡ cond c (a ∷ keep g l) (keep g l)
          → (c ≡ true → b ≡ true) × (keep f l ≡ keep g l)
      pick true true i n e = (λ _. refl, tail-eq_of_cons-eq e)
      pick true false i n e = absurd (false≢true (i refl))
      pick false true i n e = absurd (let m = ap length e in let no : ⊥ = omega arith in no)
      pick false false i n e = (λ q. q, e)

  pub alike-if : (l : List A) → All (Implies f g) l → All (Implies g f) l → keep f l ≡ keep g l
  alike-if l h k = keep-alike l (both l h k)
    where
      agree : (b c : Bool) → (b ≡ true → c ≡ true) → (c ≡ true → b ≡ true) → b ≡ c
      agree true c i j = sym (i refl)
      agree false true i j = j refl
      agree false false i j = refl

      both : (l : List A) → All (Implies f g) l → All (Implies g f) l → All (λ a. f a ≡ g a) l
      both [] h k = tt
      both (a ∷ l) h k = (agree (f a) (g a) h.0 k.0, both l h.1 k.1)
