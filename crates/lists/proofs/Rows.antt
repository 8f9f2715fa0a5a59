-- The cells of a row as a part of a map's list, and tests of a block's cells row by row. Assumes nothing.
use Prim.Native.Nat.{ℕ, zero, suc, ◌+◌, ◌-◌, ◌*◌, ◌<◌, ◌≤◌}
use native.Mathlib.Nat.{add-suc}
use native.Mathlib.Omega.{arith}
use mathlib.Core.Path.{◌≡◌, refl, sym, ap, ◌∙◌}
use mathlib.Core.Bool.{Bool, true, false, ◌||◌}
use mathlib.Core.List.{List, ◌∷◌, map, map-map}
use lib.ListN.{length, get_or, take, drop}
use lib.Seq.{drop-cons}
use Rattle.lists.specs.Places.{Place, counted, range, row, block, any, count}
use Rattle.lists.proofs.Places.{block-end, block-step, any_append, count-append}
use Rattle.lists.proofs.Scan.{any-map, count_map}

-- the cell at a place, in a list m of rows of w cells, and z past its end
abbrev pub cell_at : {A : Type 0} → List A → ℕ → A → Place → A
cell_at m w z p = get_or m (p.y * w + p.x) z

-- columns a up to, not including, b of row y, as a part of the list
abbrev pub row_part : {A : Type 0} → List A → ℕ → ℕ → ℕ → ℕ → List A
row_part m w y a b = take (y * w + b - (y * w + a)) (drop (y * w + a) m)

module _ {A : Type 0} (m : List A) (w y : ℕ) (z : A) where
  cells-counted : (a n : ℕ) → y * w + a + n ≤ length m → map (λ (x : ℕ). get_or m (y * w + x) z) (counted a n) ≡ take n (drop (y * w + a) m)
  unfolding counted
  cells-counted a zero h = refl
  cells-counted a (suc n) h =
      rw (drop-cons m (y * w + a) z (omega arith), ← add-suc)
      (ap (λ (l : List A). get_or m (y * w + a) z ∷ l) (cells-counted (suc a) n (omega arith)))

  pub row-cells : (a b : ℕ) → a ≤ b → y * w + b ≤ length m → map (cell_at m w z) (row y a b) ≡ row_part m w y a b
  unfolding row range
  row-cells a b p h =
      let k : b - a ≡ y * w + b - (y * w + a) = omega arith in
      map-map _ _ (counted a (b - a)) ∙ cells-counted a (b - a) (omega arith) ∙ ap (λ (n : ℕ). take n (drop (y * w + a) m)) k

-- ---- a test f of the cells of a block, its first row and those below

module _ {A : Type 0} (f : A → Bool) (m : List A) (w : ℕ) (z : A) (a b y d : ℕ) (p : a ≤ b) (q : y < d) (h : y * w + b ≤ length m) where
  pub block-any : any (λ t. f (cell_at m w z t)) (block a b y d)
      ≡ (any f (row_part m w y a b) || any (λ t. f (cell_at m w z t)) (block a b (y + 1) d))
  block-any =
      let g : Place → Bool = λ t. f (cell_at m w z t) in
      ap (any g) (block-step a b y d q) ∙ any_append g (row y a b) (block a b (y + 1) d)
      ∙ ap (λ (t : Bool). t || any g (block a b (y + 1) d)) (sym (any-map f _ (row y a b)) ∙ ap (any f) (row-cells m w y z a b p h))

  pub block-count : count (λ t. f (cell_at m w z t)) (block a b y d)
      ≡ count f (row_part m w y a b) + count (λ t. f (cell_at m w z t)) (block a b (y + 1) d)
  block-count =
      let g : Place → Bool = λ t. f (cell_at m w z t) in
      ap (count g) (block-step a b y d q) ∙ count-append g (row y a b) (block a b (y + 1) d)
      ∙ ap (λ (n : ℕ). n + count g (block a b (y + 1) d)) (sym (count_map f _ (row y a b)) ∙ ap (count f) (row-cells m w y z a b p h))

-- ---- a block of rows c up to d that is looked through row by row, at row y

-- nothing was found above row y
pub record AnyRows {A : Type 0} (f : A → Bool) (m : List A) (w : ℕ) (z : A) (a b c d y : ℕ) : Type 0 where
  pub same : any (λ t. f (cell_at m w z t)) (block a b y d) ≡ any (λ t. f (cell_at m w z t)) (block a b c d)

-- n were counted above row y
pub record CountRows {A : Type 0} (f : A → Bool) (m : List A) (w : ℕ) (z : A) (a b c d n y : ℕ) : Type 0 where
  pub sum : n + count (λ t. f (cell_at m w z t)) (block a b y d) ≡ count (λ t. f (cell_at m w z t)) (block a b c d)

module _ {A : Type 0} (f : A → Bool) (m : List A) (w : ℕ) (z : A) (a b c d : ℕ) where
  pub any-start : AnyRows f m w z a b c d c
  any-start = record { same = refl }

  pub rows_start : CountRows f m w z a b c d 0 c
  rows_start = record { sum = omega arith }

  module _ (y : ℕ) (r : AnyRows f m w z a b c d y) where
    module _ (p : a ≤ b) (q : y < d) (h : y * w + b ≤ length m) (t : Bool) (e : t ≡ any f (row_part m w y a b)) where
      from-here : (t || any (λ t. f (cell_at m w z t)) (block a b (y + 1) d)) ≡ any (λ t. f (cell_at m w z t)) (block a b c d)
      from-here =
          ap (λ (k : Bool). k || any (λ t. f (cell_at m w z t)) (block a b (y + 1) d)) e ∙ sym (block-any f m w z a b y d p q h) ∙ r.same

      pub any_found : t ≡ true → any (λ t. f (cell_at m w z t)) (block a b c d) ≡ true
      any_found i = sym from-here ∙ ap (λ (k : Bool). k || any (λ t. f (cell_at m w z t)) (block a b (y + 1) d)) i

      pub any_next : t ≡ false → AnyRows f m w z a b c d (y + 1)
      any_next i = record { same = ap (λ (k : Bool). k || any (λ t. f (cell_at m w z t)) (block a b (y + 1) d)) (sym i) ∙ from-here }

    pub any-nowhere : d ≤ y → any (λ t. f (cell_at m w z t)) (block a b c d) ≡ false
    any-nowhere l = sym r.same ∙ ap (any (λ t. f (cell_at m w z t))) (block-end a b y d l)

  module _ (n y : ℕ) (r : CountRows f m w z a b c d n y) where
    pub rows_next : a ≤ b → y < d → y * w + b ≤ length m → (k : ℕ) → k ≡ count f (row_part m w y a b)
        → CountRows f m w z a b c d (n + k) (y + 1)
    rows_next p q h k e = record { sum = omega (arith, e, block-count f m w z a b y d p q h, r.sum) }

    pub rows_all : d ≤ y → n ≡ count (λ t. f (cell_at m w z t)) (block a b c d)
    rows_all l = omega (arith, r.sum, none)
      where
        none : count (λ t. f (cell_at m w z t)) (block a b y d) ≡ 0
        none = unfold count in (ap (count (λ t. f (cell_at m w z t))) (block-end a b y d l))
