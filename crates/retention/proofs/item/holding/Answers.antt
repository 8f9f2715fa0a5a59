-- `retention::item::holding` meets its contract, refused or not. Assumes nothing.
use mathlib.Core.Path.{◌∙◌}
use Rattle.lists.proofs.Judged.{judged-ok, judged-err, passed-on}
use Rattle.retention.proofs.Items.{sound, state-told}
use Rattle.retention.proofs.item.holding.Goals as goal

pub returns-in_err-refusal : goal.returns-in_err-refusal
returns-in_err-refusal c =
    state-told _ _ _ _ (passed-on _ c.from_residual.ensures.1 ∙ judged-err _ _ _ _ c.in_err-refusal.ensures)

pub state-requires : goal.state-requires
state-requires c = (sound _ _ _ (judged-ok _ _ _ c.in_ok-refusal.ensures).0).early
