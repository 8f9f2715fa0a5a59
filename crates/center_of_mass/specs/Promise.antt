-- What `refine` promises.
use Rattle.std.specs.Prelude.{ℕ, ◌≡◌, Bool, cond, List, [], length, Float, Option, None, Some}
use Rattle.lists.specs.Refusals.{values_unless}
use Rattle.center_of_mass.specs.declared.Outcome.{Outcome}
use Rattle.center_of_mass.specs.declared.Outcome.TheVariants.{Rejected}
use Rattle.center_of_mass.specs.CenterOfMass.{outcome_of, refined, refusal_of, number_of, values_of}

-- the cells of the map that is given, none without one
abbrev pub cells_of : Option (List Float) → List Float
cells_of (Some m) = m
cells_of None = []

pub record Refined (r : ℕ) (x y : Float) (has_map : Bool) (m : List Float) (w h : ℕ) (o : Outcome) : Type 0 where
  pub answer : o ≡ refined r x y has_map m w h
  pub number : number_of o ≡ refusal_of r x y has_map (length m) w h
  pub values : values_of o
      ≡ values_unless (refusal_of r x y has_map (length m) w h)
      (values_of (cond has_map (outcome_of r x y m w h) (Rejected x y)))
