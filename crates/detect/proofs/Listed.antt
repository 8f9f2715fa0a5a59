-- The tests of a list as the library's iterators state them. Assumes nothing.
use Rattle.std.proofs.Common.{◌≡◌, Bool, cond, ◌||◌, List, [], ◌∷◌, length, refl, ap}
use Rattle.std.specs.List.{filter, list_any}
use Rattle.lists.specs.Places.{any, keep, count}

module _ {A : Type 0} (f : A → Bool) where
  pub any-listed : (l : List A) → any f l ≡ list_any f l
  any-listed [] = refl
  any-listed (a ∷ l) = ap (λ (t : Bool). f a || t) (any-listed l)

  keep-listed : (l : List A) → keep f l ≡ filter f l
  keep-listed [] = refl
  keep-listed (a ∷ l) = ap (λ (k : List A). cond (f a) (a ∷ k) k) (keep-listed l)

  pub count-listed : (l : List A) → count f l ≡ length (filter f l)
  unfolding count
  count-listed l = ap length (keep-listed l)
