-- `merge_slice::has_outside` meets its contract. Assumes nothing.
use Rattle.std.proofs.Common.{◌∙◌, rules, tests}
use Rattle.std.proofs.lemmas.Iterator.{YieldsList-from_slice, YieldsList-from_take}
use Rattle.std.proofs.lemmas.Iterator.Search.{any_from_yields_List}
use Rattle.merge_refusal.specs.Refusals.{corner_outside}
use Rattle.merge_refusal.proofs.Asked.{any-listed}
use Rattle.merge_slice.proofs.has_outside.Goals as goal

pub returns : goal.returns
returns c =
    any_from_yields_List corner_outside _ _ _ c.any.ensures.ran
    (YieldsList-from_take c.args.count (YieldsList-from_slice c.args.corners.now cc) cc) (λ x b q k. search (rules, tests))
    ∙ any-listed corner_outside _
