-- `pyramid::level` meets its contract: nothing where the level is refused, the base, or the part of the buffer where the level lies.
-- Assumes nothing.
use native.Mathlib.Omega.{arith}
use mathlib.Core.Path.{◌≡◌, sym, ◌∙◌}
use lib.ListN.{length}
use Rattle.lists.proofs.Judged.{judged-ok}
use Rattle.pyramid_levels.specs.Refusals.{ask, level_refusal_of}
use Rattle.pyramid_levels.proofs.Refusals.{level-few}
use Rattle.pyramid.proofs.Lookup.{Between, level-refused, level-base, level-between, level-higher}
use Rattle.pyramid.proofs.level.Goals as goal
use Rattle.pyramid.proofs.level.Goals.{After-cells_before-end, In-Ok}

pub returns-in_default : goal.returns-in_default
returns-in_default c =
    level-refused c.args.base.now c.args.levels.now _ _ _ _ _ _ (sym c.in_default.is ∙ c.level_refusal-checked.ensures)

-- nothing refuses the level
free : (c : In-Ok)
    → level_refusal_of (ask (length c.args.base.now)
    (length c.args.levels.now) c.args.width c.args.height c.args.num_levels c.args.min_size) c.args.k ≡ 0
free c = (judged-ok _ _ _ c.in-Ok.ensures).0

pub returns-then-k-eq0 : goal.returns-then-k-eq0
returns-then-k-eq0 c =
    level-base c.args.base.now c.args.levels.now _ _ _ _ _ (free (goal.at.returns-then-k-eq0 c).In-Ok) c.if-k-eq0.true

pub overflow_add-k : goal.overflow_add-k
overflow_add-k c = record { fits = omega (arith, level-few _ _ (free (goal.at.overflow_add-k c).In-Ok)) }

-- where the level begins and ends
between : (c : After-cells_before-end)
    → Between c.args.levels.now c.args.width
    c.args.height c.args.k
    c.cells_before-from.result c.cells_before-end.result
between c =
    level-between c.args.base.now c.args.levels.now _ _ _ _ _
    ((judged-ok _ _ _ c.in-Ok.ensures).0) _ _ c.if-k-eq0.false c.cells_before-from.ensures
    c.cells_before-end.ensures

pub slice_bounds-result-count : goal.slice_bounds-result-count
slice_bounds-result-count c = omega (arith, (between (goal.at.slice_bounds-result-count c).After-cells_before-end).ends)

pub slice_bounds-result-start : goal.slice_bounds-result-start
slice_bounds-result-start c = omega (arith, (between (goal.at.slice_bounds-result-start c).After-cells_before-end).ends)

pub slice_bounds-result-end-2 : goal.slice_bounds-result-end-2
slice_bounds-result-end-2 c = (between (goal.at.slice_bounds-result-end-2 c).After-cells_before-end).fits

pub returns : goal.returns
returns c =
    level-higher c.args.base.now c.args.levels.now _ _ _ _ _ (free (goal.at.returns c).In-Ok) _ _ c.if-k-eq0.false
    (between (goal.at.returns c).After-cells_before-end)
