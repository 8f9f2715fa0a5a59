-- `listing::units` meets its contract, arm by arm: the literal is 256. Assumes nothing.
use mathlib.Core.Path.{sym, ap, ◌∙◌}
use lib.Ieee.{of_bits}
use Rattle.listing.specs.Text.{units_by, units_of}
use Rattle.listing.proofs.units.Goals as goal

pub returns-in-Natural : goal.returns-in-Natural
unfolding units_of of_bits
returns-in-Natural c = ap (units_by _) (sym c.in-Natural.is ∙ c.round_half_away-nearest.ensures.answer)

pub returns-in-Negative : goal.returns-in-Negative
unfolding units_of of_bits
returns-in-Negative c = ap (units_by _) (sym c.in-Negative.is ∙ c.round_half_away-nearest.ensures.answer)

pub returns-in-Beyond : goal.returns-in-Beyond
unfolding units_of of_bits
returns-in-Beyond c =
    c.cut_off.ensures ∙ ap (units_by _)
    (sym c.in-Beyond.is ∙ c.round_half_away-nearest.ensures.answer)
