-- The cases of RULES 29.6, by computation. Assumes nothing.
use Prim.Native.Nat.{ℕ}
use mathlib.Core.Path.{◌≡◌, refl}
use mathlib.Core.List.{List, [], ◌∷◌, map}
use Rattle.std.specs.Prelude.{Ok, Err}
use Rattle.lists.specs.declared.refusal.Refusal.TheVariants.{ListChanged}
use Rattle.lists.specs.Tab.{tab}
use Rattle.corner_list.specs.declared.Corner.{Corner}
use Rattle.corner_list.specs.CornerList.{Slices, slices, x_of, y_of, strength_of, neighbours_of, no_corner, without_corner}
use Rattle.corner_strike.specs.Editions.{edition}
use Rattle.corner_strike.specs.Showing as showing
use Rattle.corner_strike.specs.Striking as striking

-- ---- three corners, whatever their fields are, in a buffer of three places
abbrev buffer : List Corner → Slices
buffer cs = slices (map x_of cs) (map y_of cs) (map strength_of cs) (map neighbours_of cs)

module _ (a b c : Corner) where
  pub second-shown : showing.Shows (buffer (a ∷ b ∷ c ∷ [])) (edition 3 0) 1 (Ok (record { corner = b; change = 0 }))
  unfolding showing.refusal_of
  second-shown = record { answer = refl; number = refl; values = refl }

  pub second-struck : striking.Strikes (buffer (a ∷ b ∷ c ∷ [])) (edition 3 0) 1 0 (Ok (record { count = 2; change = 1 }))
      (buffer (a ∷ c ∷ no_corner ∷ [])) (edition 2 1)
  unfolding striking.refusal_of without_corner tab
  second-struck = record { answer = refl; number = refl; values = refl; buffer = refl; edition = refl }

  -- the same call again, on the list that the first has left
  pub second-stale : striking.Strikes (buffer (a ∷ c ∷ no_corner ∷ [])) (edition 2 1) 1 0 (Err ListChanged)
      (buffer (a ∷ c ∷ no_corner ∷ [])) (edition 2 1)
  unfolding striking.refusal_of
  second-stale = record { answer = refl; number = refl; values = refl; buffer = refl; edition = refl }

-- ---- the numbers of calls on lists in three places: count, change number, place, and the number that is named
abbrev struck : ℕ → ℕ → ℕ → ℕ → ℕ
struck count change place named = striking.refusal_of 3 (edition count change) place named

pub numbers-struck :
    (struck 2 1 1 0 ∷ struck 2 1 2 1 ∷ struck 3 4294967295 0 4294967295 ∷ struck 3 4294967295 9 4294967295 ∷ struck 3 4294967295 0 5
    ∷ struck 4 0 0 0 ∷ struck 4 0 9 5 ∷ struck 3 5 9 6 ∷ struck 0 0 0 1 ∷ struck 0 0 0 0 ∷ struck 3 4294967294 2 4294967294 ∷ [])
    ≡ 16 ∷ 17 ∷ 18 ∷ 17 ∷ 16 ∷ 10 ∷ 10 ∷ 16 ∷ 16 ∷ 17 ∷ 0 ∷ []
unfolding striking.refusal_of
numbers-struck = refl

-- and of those that show, whatever the change number is: count and place
abbrev shows : ℕ → ℕ → ℕ
shows count place = showing.refusal_of 3 count place

pub numbers-shown :
    (shows 3 2 ∷ shows 2 2 ∷ shows 0 0 ∷ shows 4 0 ∷ shows 4 9 ∷ []) ≡ 0 ∷ 17 ∷ 17 ∷ 10 ∷ 10 ∷ []
unfolding showing.refusal_of
numbers-shown = refl
