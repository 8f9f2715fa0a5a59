-- Places of a map in row order, and questions about a list of them.
use Rattle.std.specs.Prelude.{ℕ, zero, suc, ◌+◌, ◌-◌, Bool, false, cond, ◌||◌, List, [], ◌∷◌, ◌++◌, map, length}

-- column x of row y
pub record Place : Type 0 where
  pub x : ℕ
  pub y : ℕ

-- the n numbers from a on
unfoldable pub counted : ℕ → ℕ → List ℕ
counted a zero = []
counted a (suc n) = a ∷ counted (suc a) n

-- the numbers from a up to, not including, b
unfoldable pub range : ℕ → ℕ → List ℕ
range a b = counted a (b - a)

-- row y from column a up to, not including, column b
unfoldable pub row : ℕ → ℕ → ℕ → List Place
row y a b = map (λ (x : ℕ). record { x = x; y = y }) (range a b)

unfoldable pub rows_from : ℕ → ℕ → List ℕ → List Place
rows_from a b [] = []
rows_from a b (y ∷ ys) = row y a b ++ rows_from a b ys

-- columns a to b of rows c to d, without b and d, in row order
unfoldable pub block : ℕ → ℕ → ℕ → ℕ → List Place
block a b c d = rows_from a b (range c d)

module _ {A : Type 0} (f : A → Bool) where
  -- whether a member passes the test
  abbrev pub any : List A → Bool
  any [] = false
  any (a ∷ l) = f a || any l

  -- those that pass the test, in their order
  abbrev pub keep : List A → List A
  keep [] = []
  keep (a ∷ l) = cond (f a) (a ∷ keep l) (keep l)

  -- how many pass it
  unfoldable pub count : List A → ℕ
  count l = length (keep l)

-- the lists of all members, one after the other
abbrev pub flat_map : {A B : Type 0} → (A → List B) → List A → List B
flat_map f [] = []
flat_map f (a ∷ l) = f a ++ flat_map f l

-- the sum of a number for each member
abbrev pub sum_of : {A : Type 0} → (A → ℕ) → List A → ℕ
sum_of X [] = 0
sum_of X (a ∷ l) = X a + sum_of X l

-- a fact about each member
abbrev pub All : {A : Type 0} → (A → Type 0) → List A → Type 0
All P [] = Unit
All P (a ∷ l) = P a × All P l
