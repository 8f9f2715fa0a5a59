-- Merging corners that lie in one slice (RULES 8.6), by the definitions of merging in four.
use Rattle.std.specs.Prelude.{ℕ, min, ◌≡◌, List, [], ◌∷◌, length, take, ltb, Float, Result}
use Rattle.lists.specs.Buffer.{front}
use Rattle.lists.specs.declared.refusal.Refusal.{Refusal}
use Rattle.lists.specs.Refusals.{lowest, number_of, values_unless, judged, result_or}
use Rattle.corner_list.specs.declared.Corner.{Corner}
use Rattle.corner_list.specs.CornerList.{Slices, places_of}
use Rattle.merge.specs.Merge.{result_of, values_of}
use Rattle.merge_refusal.specs.Refusals.{conditions}

-- for how many corners there is a place in the slice of corners and in each scratch slice
abbrev pub shared_places : List Corner → Slices → ℕ
shared_places cs scratch = min (length cs) (places_of scratch)

-- the number (RULES 8.6), 0 for none, for merging the first `count` corners of a slice: 4 is checked for the counted
-- corners that the slice has; 10 is given if the slice or the scratch has fewer places than the stated count
unfoldable pub refusal_for : Float → ℕ → List Corner → Slices → ℕ
refusal_for radius count cs scratch = lowest (conditions radius (take count cs) (ltb (shared_places cs scratch) count))

-- What merging the first `count` corners of a slice promises about the answer, its number and values; about the corners
-- after, what is left at the start and the rest unchanged, or all unchanged if refused; and about the scratch after
pub record MergesSlice (radius : Float) (count : ℕ) (cs : List Corner) (scratch : Slices) (r : Result ℕ Refusal)
    (cs' : List Corner) (scratch' : Slices) : Type 0 where
  pub answer : r ≡ judged (refusal_for radius count cs scratch) (length (result_of radius (take count cs)))
  pub number : number_of r ≡ refusal_for radius count cs scratch
  pub values : values_of r ≡ values_unless (refusal_for radius count cs scratch)
      (length (result_of radius (take count cs)) ∷ [])
  pub corners : cs' ≡ result_or (refusal_for radius count cs scratch) (front (result_of radius (take count cs)) cs) cs
  pub given_back : scratch' ≡ scratch
