-- What `zakdomp_centroid` promises, by the definition of `refine` with a map.
use Rattle.std.specs.Prelude.{ℕ, ◌≡◌, true, List, [], ◌∷◌, length, Float}
use Rattle.center_of_mass.specs.CenterOfMass.{outcome_of, refusal_of, values_of}
use Rattle.lists.specs.Refusals.{result_or}
use Rattle.capi_peaks.specs.declared.centroid.Seed.{Seed}

-- the three numbers of a seed
abbrev pub seed : Float → Float → Float → Seed
seed x y mass = record { x = x; y = y; mass = mass }

abbrev pub three : Seed → List Float
three s = s.x ∷ s.y ∷ s.mass ∷ []

-- r is the number of the outcome, and x, y and mass are its values, or unchanged if it is a refusal
pub record Located (radius : ℕ) (m : List Float) (w h : ℕ) (before : Seed) (r : ℕ) (after : List Float) : Type 0 where
  pub number : r ≡ refusal_of radius before.x before.y true (length m) w h
  pub values : after ≡ result_or r (values_of (outcome_of radius before.x before.y m w h)) (three before)
