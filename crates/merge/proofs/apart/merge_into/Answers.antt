-- `merge::apart::merge_into` meets its contract: copied where the radius is off, else merged by the grid. Assumes nothing.
use mathlib.Core.Path.{refl, sym, ◌∙◌}
use Rattle.std.specs.Prelude.{Some}
use Rattle.corner_list.specs.CornerList.{Slices}
use Rattle.corner_list.specs.Buffer.{seen}
use Rattle.merge.proofs.Answer.{left-off, left-on, left-copied, left-settled}
use Rattle.merge.proofs.apart.merge_into.Goals as goal
use Rattle.merge.proofs.apart.merge_into.Goals.{Start}

-- the buffer of the list
abbrev list : Start → Slices
list c = seen c.args.list

pub returns-then-is_off-clause-left : goal.returns-then-is_off-clause-left
returns-then-is_off-clause-left c =
    left-off _ (list (goal.at.returns-then-is_off-clause-left c).Start) _ _ _ _ (sym c.is_off.ensures ∙ c.if-is_off.true)
    (left-copied (list (goal.at.returns-then-is_off-clause-left c).Start) _ _ _ c.copy_list.ensures.copied)

pub returns-clause-left : goal.returns-clause-left
returns-clause-left c =
    left-on _ (list (goal.at.returns-clause-left c).Start) _ _ _ _ _ (sym c.is_off.ensures ∙ c.if-is_off.false) _ refl c.grid_of-g.ensures
    (left-settled c.grid_of-g.result (Some c.args.list) _ _ _ _ c.requires c.settle_list.ensures.settles)
