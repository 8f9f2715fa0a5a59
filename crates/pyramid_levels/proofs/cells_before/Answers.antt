-- `pyramid_levels::cells_before` meets its contract. Assumes nothing.
use native.Mathlib.Numerals.{add-one}
use native.Mathlib.Omega.{arith}
use mathlib.Core.Path.{ap, ◌∙◌}
use borrow.Author.Rules.{rules}
use Rattle.pyramid_levels.specs.Levels.{cells_above, capped}
use Rattle.pyramid_levels.proofs.Sides.{side-base, side-next}
use Rattle.pyramid_levels.proofs.Cells.{cells-last, cells-with, capped-stop}
use Rattle.pyramid_levels.proofs.cells_before.Goals as goal

pub loop-k-init : goal.loop-k-init
unfolding cells_above
loop-k-init c = (omega arith, side-next _ 0 _ (side-base _), side-next _ 0 _ (side-base _), search rules)

pub returns-then-cells-eq0 : goal.returns-then-cells-eq0
returns-then-cells-eq0 c =
    capped-stop _ _ _ _ _ _ _ _ c.loop-k.auto._k c.loop-k.invariant.1 c.loop-k.invariant.2 c.loop-k.invariant.3
    c.saturating_mul-cells.ensures c.if-cells-eq0.true (omega arith)

pub loop-k-preserved : goal.loop-k-preserved
loop-k-preserved c = (
  omega arith,
  rw add-one (side-next _ _ _ c.loop-k.invariant.1),
  rw add-one (side-next _ _ _ c.loop-k.invariant.2),
  omega (arith, cells-with _ _ _ _ _ c.loop-k.auto._k c.loop-k.invariant.1 c.loop-k.invariant.2, c.loop-k.invariant.3),
)

pub returns : goal.returns
returns c = c.loop-k.invariant.3 ∙ ap capped (cells-last _ _ _ _ (omega arith) c.loop-k.invariant.0)
