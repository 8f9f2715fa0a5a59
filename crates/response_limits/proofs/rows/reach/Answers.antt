-- `response_limits::rows::reach` meets its contract: each return is a span of the row. Assumes nothing.
use native.Mathlib.Omega.{arith}
use Rattle.response.proofs.Inside.{near-edge, off-edge, span-above, span_below, span-row}
use Rattle.response_limits.proofs.rows.reach.Goals as goal

pub returns-then-y-radius : goal.returns-then-y-radius
returns-then-y-radius c = span-above _ _ _ _ _ _ _ c.requires.0 c.if-y-radius.true

pub returns-then-h-y : goal.returns-then-h-y
returns-then-h-y c = span_below _ _ _ _ _ _ _ c.requires.0 (near-edge _ _ _ c.if-h-y.true)

pub returns : goal.returns
returns c =
    span-row _ _ _ _ _ _ _ c.requires.0
    c.args.radius _ c.saturating_sub.result c.saturating_sub.result c.saturating_sub.result _ c.if-y-radius.false
    (off-edge _ _ _ c.if-h-y.false)
    (omega arith) c.min-from.ensures c.saturating_sub.ensures (omega arith) (omega (arith, c.saturating_sub.ensures))
    c.max.ensures
