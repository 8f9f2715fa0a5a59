-- `response_limits::response_limits` meets its contract: refused, or both maps filled. Assumes nothing.
use Rattle.lists.proofs.Judged.{judged-ok, passed-on}
use Rattle.response_limits.proofs.Judging.{given, when-refused, when-written}
use Rattle.response_limits.proofs.response_limits.Goals as goal

pub returns-in_err-refusal : goal.returns-in_err-refusal
returns-in_err-refusal c = rw (passed-on _ c.from_residual.ensures.1) (when-refused _ _ _ _ _ _ _ _ c.in_err-refusal.ensures)

pub fill-requires : goal.fill-requires
fill-requires c =
    let g = given _ _ _ _ _ _ _ (judged-ok _ _ _ c.in_ok-refusal.ensures).0 in
    record { sized = (g.low-image, g.high-image, g.own_radius); w_in_bounds = (g.enough-lows, g.enough-highs) }

pub returns : goal.returns
returns c = when-written _ _ _ _ _ _ _ _ c.in_ok-refusal.ensures _ _ c.fill.ensures.lows_after c.fill.ensures.highs_after
