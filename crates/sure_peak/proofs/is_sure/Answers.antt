-- `sure_peak::is_sure` meets its contract: each return is what the tests on the way to it say. Assumes nothing.
use mathlib.Core.Path.{◌≡◌, sym, ◌∙◌}
use Prim.Native.Nat.{◌+◌, ◌*◌}
use native.Mathlib.Omega.{arith}
use lib.ListN.{get_or}
use lib.IntN.{ℤ, pos}
use mir.Syntax.{w32}
use mir.Val.{to_z, of_z}
use borrow.Author.Tests.{not-true, not-false}
use Rattle.sure_peak.proofs.Signed.{read}
use Rattle.sure_peak.proofs.WindowRows.{centre-in, centre-small}
use Rattle.sure_peak.proofs.Peak.{when-low, when-beaten, when-top}
use Rattle.sure_peak.proofs.is_sure.Goals as goal
use Rattle.sure_peak.proofs.is_sure.Goals.{After-low-1}

pub overflow_mul-low : goal.overflow_mul-low
overflow_mul-low c = omega (arith, centre-small _ _ _ _ _ c.requires.0 (pos 0))

pub overflow_add-low : goal.overflow_add-low
overflow_add-low c = omega (arith, centre-small _ _ _ _ _ c.requires.0 (pos 0))

pub offset_bounds-lows-y : goal.offset_bounds-lows-y
offset_bounds-lows-y c = omega (arith, centre-small _ _ _ _ _ c.requires.0 (pos 0))

pub bounds-lows-y : goal.bounds-lows-y
bounds-lows-y c = centre-in _ _ _ _ _ c.requires.0 (pos 0)

-- the low number of the place, as it was read
module _ (c : After-low-1) where
  abbrev cell : ℤ
  cell = get_or c.args.lows.now (c.args.y * c.args.w + c.args.x) (pos 0)

  same : to_z w32 (of_z w32 cell) ≡ cell
  same = read cell c.low-1.given

pub returns-then-not-exceeds : goal.returns-then-not-exceeds
returns-then-not-exceeds c =
    when-low c.args.lows.now c.args.highs.now c.args.w c.args.h c.args.r c.args.threshold c.args.least
    (record { x = c.args.x; y = c.args.y }) _
    (same (goal.at.returns-then-not-exceeds c).After-low-1)
    (sym c.exceeds.ensures ∙ not-true _ c.if-not-exceeds.true-raw)

pub returns-then-count_window-ne0 : goal.returns-then-count_window-ne0
returns-then-count_window-ne0 c =
    when-beaten c.args.lows.now c.args.highs.now c.args.w c.args.h c.args.r c.args.threshold c.args.least
    (record { x = c.args.x; y = c.args.y }) _
    (same (goal.at.returns-then-count_window-ne0 c).After-low-1) (sym c.exceeds.ensures ∙ not-false _ c.if-not-exceeds.false-raw) _
    c.count_window.ensures c.if-count_window-ne0.true

pub returns : goal.returns
returns c =
    when-top c.args.lows.now c.args.highs.now c.args.w c.args.h c.args.r c.args.threshold c.args.least
    (record { x = c.args.x; y = c.args.y }) _
    (same (goal.at.returns c).After-low-1) (sym c.exceeds.ensures ∙ not-false _ c.if-not-exceeds.false-raw) _
    c.count_window.ensures c.if-count_window-ne0.false _ c.count_window-2.ensures
