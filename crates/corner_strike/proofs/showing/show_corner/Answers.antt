-- `corner_strike::show_corner` meets its contract: a refusal is passed on, or the corner at the place is shown. Assumes nothing.
use Rattle.lists.proofs.Judged.{passed-on}
use Rattle.corner_strike.proofs.Judging.{show-refused, show-found}
use Rattle.corner_strike.proofs.showing.show_corner.Goals as goal

pub returns-in_err-refusal : goal.returns-in_err-refusal
returns-in_err-refusal c =
    rw (passed-on _ c.from_residual.ensures.1) (show-refused _ _ _ _ c.places.ensures _ c.in_err-refusal.ensures)

pub returns : goal.returns
returns c = show-found _ _ _ _ c.places.ensures _ c.in_ok-refusal.ensures c.at-corner.ensures
