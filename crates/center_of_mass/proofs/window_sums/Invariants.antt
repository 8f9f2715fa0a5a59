-- The sums with the rows that are left are those with all rows.
use mathlib.Core.Path.{◌≡◌}
use Rattle.lists.specs.Places.{block}
use Rattle.center_of_mass.specs.CenterOfMass.{no_sums, with_cells}
use Rattle.center_of_mass.proofs.window_sums.Given as goal

abbrev pub invariant-loop-y : goal.invariant-loop-y
invariant-loop-y l = with_cells l.map l.w l.s (block l.x0 l.x1 l.y l.y1) ≡ with_cells l.map l.w no_sums (block l.x0 l.x1 l.y0 l.y1)
