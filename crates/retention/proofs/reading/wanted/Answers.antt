-- `retention::reading::wanted` meets its contract. The invariant: the items before this one are passed. Assumes nothing.
use mathlib.Core.Path.{sym, ◌∙◌}
use Rattle.lists.proofs.Judged.{checked-err, checked-ok}
use Rattle.retention.proofs.Passing.{last-is, passing-next, passing-stops, passing-all}
use Rattle.retention.proofs.reading.wanted.Goals as goal

pub returns-then-is_err : goal.returns-then-is_err
returns-then-is_err c =
    passing-stops _ _ _ c.loop-passed.invariant c.loop-passed-test.true
    (checked-err _ _ c.item_fault.ensures (sym c.is_err.ensures.value ∙ c.if-is_err.true)) _
    c.wanted_item-bytes.ensures

pub loop-passed-preserved : goal.loop-passed-preserved
loop-passed-preserved c =
    passing-next _ _ _ c.loop-passed.invariant c.loop-passed-test.true
    (checked-ok _ _ c.item_fault.ensures (sym c.is_err.ensures.value ∙ c.if-is_err.false))

pub returns : goal.returns
returns c =
    passing-all _ _ _ c.loop-passed.invariant c.loop-passed-test.false _
    (c.max.ensures ∙ last-is _ _ c.loop-passed-test.false c.loop-passed.auto.passed-end c.loop-passed.invariant.near)
