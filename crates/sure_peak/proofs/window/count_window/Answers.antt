-- `sure_peak::window::count_window` meets its contract: what is counted and the rows ahead make the count of the square. Assumes nothing.
use mathlib.Core.Path.{◌≡◌, ap, ◌∙◌}
use mathlib.Core.Bool.{true, false}
use Prim.Native.Nat.{ℕ, ◌+◌, ◌*◌, ◌≤◌}
use native.Mathlib.Omega.{arith}
use lib.ListN.{get_or}
use lib.IntN.{ℤ, pos}
use lib.Signed.{lt_z}
use mir.Syntax.{w32}
use mir.Val.{to_z, of_z}
use Rattle.lists.specs.Limits.{largest_map, largest_window}
use Rattle.lists.specs.Places.{count}
use Rattle.lists.proofs.Rows.{rows_start}
use Rattle.detect.specs.Peaks.{window}
use Rattle.sure_peak.specs.SurePeak.{stored_fifths}
use Rattle.sure_peak.proofs.Signed.{read, test_read}
use Rattle.sure_peak.proofs.WindowRows.{row_in, row_small, count_next, count_fits, centre-in, centre-small, centre-counted}
use Rattle.sure_peak.proofs.WindowRows.{centre-off, centre-not}
use Rattle.sure_peak.proofs.window.count_window.Goals as goal
use Rattle.sure_peak.proofs.window.count_window.Goals.{After-count_above-n, After-t26-1, In-loop-yy}

-- in a turn the row at hand begins at a small number
small : (c : In-loop-yy) → c.loop-yy.yy * c.args.w ≤ largest_map
small c = row_small _ _ _ _ _ c.requires (to_z w32 (of_z w32 c.args.v)) _ c.loop-yy-test.true

fits : (c : After-count_above-n) → c.loop-yy.n + c.count_above-n.result ≤ largest_window
fits c =
    count_fits _ _ _ _ _ c.requires (to_z w32 (of_z w32 c.args.v)) _ c.loop-yy-test.true _ c.loop-yy.invariant _
    c.count_above-n.ensures

pub loop-yy-init : goal.loop-yy-init
loop-yy-init c = rows_start (lt_z (to_z w32 (of_z w32 c.args.v))) _ _ _ _ _ _ _

pub slice_bounds-count_above-end : goal.slice_bounds-count_above-end
slice_bounds-count_above-end c = row_in _ _ _ _ _ c.requires (to_z w32 (of_z w32 c.args.v)) _ c.loop-yy-test.true

pub overflow_add-n : goal.overflow_add-n
overflow_add-n c = omega (arith, fits c)

pub loop-yy-preserved : goal.loop-yy-preserved
loop-yy-preserved c =
    count_next _ _ _ _ _ c.requires (to_z w32 (of_z w32 c.args.v)) _ c.loop-yy-test.true _ c.loop-yy.invariant _
    c.count_above-n.ensures

pub overflow_mul-y : goal.overflow_mul-y
overflow_mul-y c = omega (arith, centre-small _ _ _ _ _ c.requires (to_z w32 (of_z w32 c.args.v)))

pub overflow_add-y : goal.overflow_add-y
overflow_add-y c = omega (arith, centre-small _ _ _ _ _ c.requires (to_z w32 (of_z w32 c.args.v)))

pub offset_bounds-map-y : goal.offset_bounds-map-y
offset_bounds-map-y c = omega (arith, centre-small _ _ _ _ _ c.requires (to_z w32 (of_z w32 c.args.v)))

pub bounds-map-y : goal.bounds-map-y
bounds-map-y c = centre-in _ _ _ _ _ c.requires (to_z w32 (of_z w32 c.args.v))

-- ---- behind the last row
module _ (c : After-t26-1) where
  abbrev centre : ℤ
  centre = get_or c.args.map.now (c.args.y * c.args.w + c.args.x) (pos 0)

  -- v is what was stored for it
  same : to_z w32 (of_z w32 c.args.v) ≡ c.args.v
  same = read c.args.v c.ranges.v.sfits

  abbrev passing : ℤ → ℕ
  passing v =
      count (λ q. lt_z v (stored_fifths c.args.map.now c.args.w q))
      (window c.args.w c.args.h c.args.r (record { x = c.args.x; y = c.args.y }))

pub overflow_sub-result : goal.overflow_sub-result
overflow_sub-result c =
    centre-counted _ _ _ _ _ c.requires (to_z w32 (of_z w32 c.args.v)) _ _ c.loop-yy.invariant c.loop-yy-test.false
    (test_read (to_z w32 (of_z w32 c.args.v)) (centre (goal.at.overflow_sub-result c).After-t26-1) true c.t26-1.given c.if-v-map.true)

pub returns-then-v-map : goal.returns-then-v-map
returns-then-v-map c =
    centre-off _ _ _ _ _ c.requires (to_z w32 (of_z w32 c.args.v)) _ _ c.loop-yy.invariant c.loop-yy-test.false
    (test_read (to_z w32 (of_z w32 c.args.v)) (centre (goal.at.returns-then-v-map c).After-t26-1) true c.t26-1.given c.if-v-map.true)
    ∙ ap (passing (goal.at.returns-then-v-map c).After-t26-1) (same (goal.at.returns-then-v-map c).After-t26-1)

pub returns-else-v-map : goal.returns-else-v-map
returns-else-v-map c =
    centre-not _ _ _ _ _ c.requires (to_z w32 (of_z w32 c.args.v)) _ _ c.loop-yy.invariant c.loop-yy-test.false
    (test_read (to_z w32 (of_z w32 c.args.v)) (centre (goal.at.returns-else-v-map c).After-t26-1) false c.t26-1.given c.if-v-map.false)
    ∙ ap (passing (goal.at.returns-else-v-map c).After-t26-1) (same (goal.at.returns-else-v-map c).After-t26-1)

pub overflow_mul-a : goal.overflow_mul-a
overflow_mul-a c = omega (arith, small c)

pub overflow_add-a : goal.overflow_add-a
overflow_add-a c = omega (arith, small c)

pub overflow_mul-e : goal.overflow_mul-e
overflow_mul-e c = omega (arith, small c)

pub overflow_add-e : goal.overflow_add-e
overflow_add-e c = omega (arith, small c)

pub offset_bounds-map-a : goal.offset_bounds-map-a
offset_bounds-map-a c = omega (arith, small c)
