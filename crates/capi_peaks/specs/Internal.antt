-- The contract of a private function: no public promise depends on it.
use Rattle.std.specs.Prelude.{List, Float}
use Rattle.center_of_mass.specs.declared.Outcome.{Outcome}
use Rattle.center_of_mass.specs.declared.Outcome.TheVariants.{Accepted, Rejected, OutOfBounds, IllConditioned, Refused}
use Rattle.center_of_mass.specs.CenterOfMass.{values_of}

-- an outcome's values, or what was there before if it is a refusal
abbrev pub located : Outcome → List Float → List Float
located (Accepted x y m) before = values_of (Accepted x y m)
located (Rejected x y) before = values_of (Rejected x y)
located (OutOfBounds x y) before = values_of (OutOfBounds x y)
located (IllConditioned x y) before = values_of (IllConditioned x y)
located (Refused number) before = before
