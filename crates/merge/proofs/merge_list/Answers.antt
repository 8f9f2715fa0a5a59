-- `merge::merge_list` meets its contract: off, or merged by the grid. Assumes nothing.
use mathlib.Core.Path.{sym, ◌∙◌}
use Rattle.std.specs.Prelude.{None}
use Rattle.corner_list.specs.Buffer.{contents}
use Rattle.merge.proofs.Answer.{left-off, left-on, left-all, left-settled}
use Rattle.merge.proofs.merge_list.Goals as goal

pub returns-then-is_off-clause-left : goal.returns-then-is_off-clause-left
returns-then-is_off-clause-left c =
    left-off _ (contents c.args.b.now) _ _ _ _
    (sym c.is_off.ensures ∙ c.if-is_off.true) (left-all _ _ c.requires)

pub returns-clause-left : goal.returns-clause-left
returns-clause-left c =
    left-on _ (contents c.args.b.now) _ _ _ _ _
    (sym c.is_off.ensures ∙ c.if-is_off.false) _ c.view-v.ensures c.grid_of-g.ensures
    (left-settled c.grid_of-g.result None _ _ _ _ c.requires c.settle_list.ensures.settles)
