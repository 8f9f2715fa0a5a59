-- Where a corner stands after `refine`, by the answer's tag. Assumes nothing.
use native.Mathlib.Omega.{arith}
use mathlib.Core.Path.{◌≡◌, refl}
use mathlib.Core.Logic.{inl, inr}
use mathlib.Core.List.{[], ◌∷◌}
use types.Run.{OneOf}
use denote.Enum.Declared.{tag_of}
use Rattle.corner_list.specs.declared.Corner.{Corner}
use Rattle.center_of_mass.specs.contracts.Outcome.{the_type as outcome-type}
use Rattle.center_of_mass.specs.declared.Outcome.{Outcome}
use Rattle.center_of_mass.specs.declared.Outcome.TheVariants.{Accepted, Rejected, OutOfBounds, IllConditioned, Refused}
use Rattle.patch_corners.specs.MapCorners.{centre_or_seed}

pub not-accepted : (o : Outcome) (c : Corner) → OneOf (1 ∷ 2 ∷ 3 ∷ 4 ∷ []) (tag_of outcome-type o) → c ≡ centre_or_seed o c
not-accepted (Accepted x y m) c (inl h) = absurd (omega arith)
not-accepted (Accepted x y m) c (inr (inl h)) = absurd (omega arith)
not-accepted (Accepted x y m) c (inr (inr (inl h))) = absurd (omega arith)
not-accepted (Accepted x y m) c (inr (inr (inr h))) = absurd (omega arith)
not-accepted (Rejected x y) c h = refl
not-accepted (OutOfBounds x y) c h = refl
not-accepted (IllConditioned x y) c h = refl
not-accepted (Refused n) c h = refl
