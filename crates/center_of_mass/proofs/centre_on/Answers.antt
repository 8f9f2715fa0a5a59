-- `center_of_mass::centre_on` meets its contract, test by test. Assumes nothing.
use borrow.Author.Rules.{rules}
use mathlib.Core.Path.{ap, ◌∙◌}
use Rattle.center_of_mass.specs.CenterOfMass.{centre_from, centre_on}
use Rattle.center_of_mass.proofs.Axis.{not-natural}
use Rattle.center_of_mass.proofs.centre_on.Goals as goal

pub returns-in_default : goal.returns-in_default
unfolding centre_on
returns-in_default c =
    not-natural c.args.r c.args.side c.round_half_away-nearest.result (search rules)
    ∙ ap (centre_from _ _) c.round_half_away-nearest.ensures.answer

pub returns-then-p-r : goal.returns-then-p-r
unfolding centre_on
returns-then-p-r c = rw (← c.round_half_away-nearest.ensures.answer, c.in-Natural.is) (search rules)

pub returns : goal.returns
unfolding centre_on
returns c = rw (← c.round_half_away-nearest.ensures.answer, c.in-Natural.is) (search rules)
