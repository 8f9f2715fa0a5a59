-- The sums with what is left of the row are those with the whole row.
use mathlib.Core.Path.{◌≡◌}
use Rattle.lists.specs.Places.{row}
use Rattle.center_of_mass.specs.CenterOfMass.{with_cells}
use Rattle.center_of_mass.proofs.row_sums.Given as goal

abbrev pub invariant-loop-x : goal.invariant-loop-x
invariant-loop-x l = with_cells l.map l.w l.s (row l.y l.x l.x1) ≡ with_cells l.map l.w l.initial.s (row l.y l.x0 l.x1)
