-- `merge_slice::exchange` meets its contract: each turn exchanges one place more. Assumes nothing.
use Rattle.std.proofs.Common.{rules}
use native.Mathlib.Omega.{arith}
use mathlib.Core.Path.{refl, ap, ◌∙◌}
use Rattle.lists.specs.Tab.{tab}
use Rattle.corner_list.specs.CornerList.{Slices, corner_at}
use Rattle.corner_list.specs.Buffer.{contents}
use Rattle.merge_slice.proofs.Turns.{corners-turn, buffer-turn}
use Rattle.merge_slice.proofs.exchange.Goals as goal

pub loop-i-init : goal.loop-i-init
unfolding tab
loop-i-init c = (search rules, refl, refl)

pub loop-i-preserved : goal.loop-i-preserved
loop-i-preserved c =
    let cs = c.args.corners.now in
    let b = contents c.args.b.now in
    let i = c.loop-i.i in
    let at = c.loop-i.invariant in (
      search rules,
      rw (at.1, c.at.ensures ∙ ap (λ (d : Slices). corner_at d i) at.2) (corners-turn cs b i (omega arith) (omega arith)),
      c.put.ensures.put ∙ rw (at.1, at.2) (buffer-turn cs b i (omega arith) (omega arith)),
    )
