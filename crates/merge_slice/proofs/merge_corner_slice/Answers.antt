-- `merge_slice::merge_corner_slice` meets its contract: refused, or exchanged, merged, and exchanged again. Assumes nothing.
use Prim.Native.Nat.{min}
use native.Mathlib.Omega.{arith}
use mathlib.Core.Path.{◌≡◌, sym, ap, ◌∙◌}
use Rattle.corner_list.specs.Buffer.{contents}
use Rattle.merge_slice.specs.MergeSlice.{shared_places}
use Rattle.merge_slice.proofs.Slice.{slice-refused, slice-merged, places-stay}
use Rattle.merge_slice.proofs.merge_corner_slice.Goals as goal
use Rattle.merge_slice.proofs.merge_corner_slice.Goals.{After-min-n}

pub returns-then-is_refused-clause-merged : goal.returns-then-is_refused-clause-merged
returns-then-is_refused-clause-merged c =
    slice-refused c.args.radius c.args.count c.args.corners.now _ (sym c.is_refused.ensures ∙ c.if-is_refused.true)

-- how many are exchanged
few : (c : After-min-n) → c.min-n.result ≡ min c.args.count (shared_places c.args.corners.now (contents c.args.b.now))
few c = c.min-n.ensures ∙ ap (min _) (c.min.ensures ∙ ap (min _) c.places.ensures)

pub exchange-requires-2 : goal.exchange-requires-2
exchange-requires-2 c =
    let n = few (goal.at.exchange-requires-2 c).After-min-n in (
      omega (arith, c.exchange.auto.corners, n),
      places-stay c.args.radius c.args.count c.args.corners.now (contents c.args.b.now) _ n
          (sym c.is_refused.ensures ∙ c.if-is_refused.false)
          _ _ _ c.exchange.ensures.exchanged.1 c.merge_within-answer.ensures.merged,
    )

pub returns-clause-merged : goal.returns-clause-merged
returns-clause-merged c =
    let n = few (goal.at.returns-clause-merged c).After-min-n in
    slice-merged c.args.radius c.args.count c.args.corners.now (contents c.args.b.now) _ n
    (sym c.is_refused.ensures ∙ c.if-is_refused.false)
    _ _ _ c.exchange.ensures.exchanged.1 c.merge_within-answer.ensures.merged _ _ _ c.exchange.ensures.exchanged.0
    c.exchange-2.ensures.exchanged
