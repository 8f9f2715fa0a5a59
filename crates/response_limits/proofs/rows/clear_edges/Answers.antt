-- `response_limits::rows::clear_edges` meets its contract: both parts are cleared. Assumes nothing.
use mathlib.Core.Path.{ap, ◌∙◌}
use native.Mathlib.Omega.{arith}
use lib.Seq.{length-take-le}
use Rattle.response_limits.proofs.Edges.{edges-cleared, zeros, zeros-are}
use Rattle.response_limits.proofs.rows.clear_edges.Goals as goal

pub returns : goal.returns
returns c =
    let front = length-take-le c.args.from c.args.out.now (omega arith) in
    let first = c.fill.ensures.after (λ y e. e) ∙ zeros-are _ ∙ ap zeros front in
    edges-cleared c.args.from c.args.to c.args.out.now _ c.requires.0 c.requires.1 first _
    (c.fill-2.ensures.after (λ y e. e) ∙ zeros-are _)
