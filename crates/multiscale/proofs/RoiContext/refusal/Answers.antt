-- `multiscale::RoiContext::refusal` meets its contract, test by test. Assumes nothing.
use mathlib.Core.Path.{sym, ap, ◌∙◌}
use Rattle.lists.specs.Refusals.{verdict}
use Rattle.multiscale.proofs.Contexts.{large, unfit, outside, none}
use Rattle.multiscale.proofs.RoiContext.refusal.Goals as goal

pub returns-then-is_large : goal.returns-then-is_large
returns-then-is_large c = large _ _ (sym c.is_large.ensures ∙ c.if-is_large.true)

pub returns-then-not-parameters_fit : goal.returns-then-not-parameters_fit
returns-then-not-parameters_fit c =
    unfit _ _ (sym c.is_large.ensures ∙ c.if-is_large.false)
    (sym c.parameters_fit.ensures ∙ c.if-not-parameters_fit.true)

pub returns-then-not-is_inside : goal.returns-then-not-is_inside
returns-then-not-is_inside c =
    outside _ _ (sym c.is_large.ensures ∙ c.if-is_large.false)
    (sym c.parameters_fit.ensures ∙ c.if-not-parameters_fit.false)
    (sym c.is_inside.ensures ∙ c.if-not-is_inside.true)

pub returns : goal.returns
returns c =
    ap verdict (sym (none _ _ (sym c.is_large.ensures ∙ c.if-is_large.false)
    (sym c.parameters_fit.ensures ∙ c.if-not-parameters_fit.false)
    (sym c.is_inside.ensures ∙ c.if-not-is_inside.false)))
