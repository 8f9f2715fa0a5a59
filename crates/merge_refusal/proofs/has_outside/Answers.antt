-- `merge_refusal::has_outside` meets its contract. Assumes nothing.
use Rattle.std.proofs.Common.{refl, ◌∙◌, arith, rules, tests}
use Rattle.std.proofs.lemmas.Iterator.{YieldsList-from_range}
use Rattle.std.proofs.lemmas.Iterator.Search.{any_from_yields_List}
use Rattle.corner_list.specs.CornerList.{corner_at}
use Rattle.corner_list.specs.Buffer.{seen}
use Rattle.merge_refusal.specs.Refusals.{corner_outside}
use Rattle.merge_refusal.proofs.Asked.{any-counted}
use Rattle.merge_refusal.proofs.has_outside.Goals as goal

pub returns : goal.returns
returns c =
    any_from_yields_List (λ i. corner_outside (corner_at (seen c.args.list) i)) _ _ _ c.any.ensures.ran
    (YieldsList-from_range 0 c.args.n c.args.n refl (omega arith)) (λ x b q k. search (rules, tests))
    ∙ any-counted corner_outside (corner_at (seen c.args.list)) c.args.n
