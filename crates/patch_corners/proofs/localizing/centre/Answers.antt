-- `patch_corners::localizing::centre` meets its contract. Assumes nothing.
use borrow.Author.Rules.{rules}
use mathlib.Core.Path.{sym, ap, ◌∙◌}
use Rattle.center_of_mass.specs.declared.Outcome.{Outcome}
use Rattle.patch_corners.specs.MapCorners.{centre_or_seed, centred}
use Rattle.patch_corners.proofs.Landing.{not-accepted}
use Rattle.patch_corners.proofs.localizing.centre.Goals as goal

pub returns-in_default : goal.returns-in_default
unfolding centred
returns-in_default c =
    not-accepted c.refine-o.result c.args.c (search rules)
    ∙ ap (λ (o : Outcome). centre_or_seed o c.args.c) c.refine-o.ensures.answer

pub returns : goal.returns
unfolding centred
returns c =
    ap (λ (o : Outcome). centre_or_seed o c.args.c)
    (sym c.in-Accepted.is ∙ c.refine-o.ensures.answer)
