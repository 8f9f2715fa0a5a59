-- `multiscale::RoiContext::parameters_fit` meets its contract, by the tests. Assumes nothing.
use borrow.Author.Rules.{rules}
use Rattle.multiscale.specs.Multiscale.{parameters_fit}
use Rattle.multiscale.proofs.RoiContext.parameters_fit.Goals as goal

pub returns-then-self-le-LAST_LEVEL : goal.returns-then-self-le-LAST_LEVEL
unfolding parameters_fit
returns-then-self-le-LAST_LEVEL c = search rules

pub returns-else-self-le-LAST_LEVEL : goal.returns-else-self-le-LAST_LEVEL
unfolding parameters_fit
returns-else-self-le-LAST_LEVEL c = search rules
