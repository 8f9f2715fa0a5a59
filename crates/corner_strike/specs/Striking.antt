-- A corner is struck (RULES 29.3).
use Rattle.std.specs.Prelude.{ℕ, ◌≡◌, Bool, List, [], ◌∷◌, Result}
use Rattle.lists.specs.declared.refusal.Refusal.{Refusal}
use Rattle.lists.specs.Refusals.{lowest, number_of, values_by, values_unless, judged, result_or}
use Rattle.corner_list.specs.CornerList.{Slices, places_of, without_corner}
use Rattle.corner_strike.specs.declared.striking.Strike.{Strike}
use Rattle.corner_strike.specs.Editions.{Edition, edition, raised, lacks_places, is_other, is_beyond, is_largest}

-- 10, 16, 17, 18, in this order
abbrev pub conditions : ℕ → Edition → ℕ → ℕ → List (Bool × ℕ)
conditions places e place change =
    (lacks_places places e.count, 10) ∷ (is_other e change, 16) ∷ (is_beyond e.count place, 17)
    ∷ (is_largest e, 18) ∷ []

unfoldable pub refusal_of : ℕ → Edition → ℕ → ℕ → ℕ
refusal_of places e place change = lowest (conditions places e place change)

-- the answer if nothing refuses: the list's count and change number after the strike
abbrev pub struck_by : Edition → Strike
struck_by e = record { count = (raised e).count; change = (raised e).change }

-- the value of an answer
abbrev pub values_of : Result Strike Refusal → List Edition
values_of = values_by (λ s. edition s.count s.change ∷ [])

-- the promise of `strike_corner` for the list with the buffer b and the count and change number e: the corner at the
-- place is removed, and both numbers change in place; if refused, buffer, count and change number are unchanged
pub record Strikes (b : Slices) (e : Edition) (place change : ℕ) (r : Result Strike Refusal)
    (b' : Slices) (e' : Edition) : Type 0 where
  pub answer : r ≡ judged (refusal_of (places_of b) e place change) (struck_by e)
  pub number : number_of r ≡ refusal_of (places_of b) e place change
  pub values : values_of r ≡ values_unless (refusal_of (places_of b) e place change) (raised e ∷ [])
  pub buffer : b' ≡ result_or (refusal_of (places_of b) e place change) (without_corner place e.count b) b
  pub edition : e' ≡ result_or (refusal_of (places_of b) e place change) (raised e) e
