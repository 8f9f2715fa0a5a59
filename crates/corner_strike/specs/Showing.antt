-- A corner is shown (RULES 29.2).
use Rattle.std.specs.Prelude.{ℕ, ◌≡◌, Bool, List, [], ◌∷◌, Result}
use Rattle.lists.specs.declared.refusal.Refusal.{Refusal}
use Rattle.lists.specs.Refusals.{lowest, number_of, values_by, values_unless, judged}
use Rattle.corner_list.specs.declared.Corner.{Corner}
use Rattle.corner_list.specs.CornerList.{Slices, places_of, corner_at}
use Rattle.corner_strike.specs.declared.showing.Shown.{Shown}
use Rattle.corner_strike.specs.Editions.{Edition, lacks_places, is_beyond}

-- 10, then 17; the change number is not checked
abbrev pub conditions : ℕ → ℕ → ℕ → List (Bool × ℕ)
conditions places count place = (lacks_places places count, 10) ∷ (is_beyond count place, 17) ∷ []

unfoldable pub refusal_of : ℕ → ℕ → ℕ → ℕ
refusal_of places count place = lowest (conditions places count place)

-- the answer if nothing refuses
abbrev pub shown_of : Slices → Edition → ℕ → Shown
shown_of b e place = record { corner = corner_at b place; change = e.change }

-- the values of an answer
abbrev pub values_of : Result Shown Refusal → List (Corner × ℕ)
values_of = values_by (λ s. (s.corner, s.change) ∷ [])

-- the promise of `show_corner` for the list with the buffer b: the corner at the place, and the list's change number.
-- No buffer can change
pub record Shows (b : Slices) (e : Edition) (place : ℕ) (r : Result Shown Refusal) : Type 0 where
  pub answer : r ≡ judged (refusal_of (places_of b) e.count place) (shown_of b e place)
  pub number : number_of r ≡ refusal_of (places_of b) e.count place
  pub values : values_of r ≡ values_unless (refusal_of (places_of b) e.count place) ((corner_at b place, e.change) ∷ [])
