-- `stream::reading::wanted` meets its contract. Assumes nothing.
use mathlib.Core.Path.{sym, ◌∙◌}
use borrow.Author.Tests.{ne_eqb}
use Rattle.lists.specs.Refusals.{number_of}
use Rattle.lists.proofs.Judged.{tested-ok, tested-err}
use Rattle.stream.proofs.reading.wanted.Goals as goal

pub returns-then-is_ok : goal.returns-then-is_ok
returns-then-is_ok c =
    sym (rw (tested-ok _ (sym c.is_ok.ensures.value ∙ c.if-is_ok.true)) at c.judge-stop.ensures.wants)

pub returns : goal.returns
returns c =
    let some = tested-err _ (sym c.is_ok.ensures.value ∙ c.if-is_ok.false) in
    c.wanted_here.ensures ∙ sym (rw (ne_eqb (number_of c.judge-stop.result.fault) 0 some) at c.judge-stop.ensures.wants)
