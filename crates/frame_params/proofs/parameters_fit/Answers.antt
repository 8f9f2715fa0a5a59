-- `frame_params::parameters_fit` meets its contract, return by return. Assumes nothing.
use borrow.Author.Rules.{rules}
use Rattle.frame_params.specs.Ranges.{parameters_fit}
use Rattle.frame_params.proofs.parameters_fit.Goals as goal

pub returns-then-not-is_outside : goal.returns-then-not-is_outside
unfolding parameters_fit
returns-then-not-is_outside c = search rules

pub returns-else-not-is_outside : goal.returns-else-not-is_outside
unfolding parameters_fit
returns-else-not-is_outside c = search rules
