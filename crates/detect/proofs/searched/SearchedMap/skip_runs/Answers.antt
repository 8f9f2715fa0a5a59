-- `detect::searched::SearchedMap::skip_runs` meets its contract: runs at or below the threshold are skipped, and of the next run the cells
-- that are passed over. Assumes nothing.
use Rattle.std.proofs.Common.{◌≡◌, ℕ, ◌+◌, ◌-◌, ◌≤◌, subst, arith}
use Rattle.lists.proofs.Rows.{row_part}
use Rattle.detect.specs.Internal.{place, run_cells, Below, PlacesSkipped}
use Rattle.detect.proofs.Passing.{run_in, run-skipped}
use Rattle.detect.proofs.Rows.{below-few, skipped-none, skipped-below, skipped-on}
use Rattle.detect.proofs.searched.SearchedMap.skip_runs.Goals as goal
use Rattle.detect.proofs.searched.SearchedMap.skip_runs.Goals.{After-blocks_below-x, After-run_passed-n, Else-x1-x-lt-RUN}

-- where the search stands after the runs at or below the threshold
module _ (c : After-blocks_below-x) where
  low : Below (row_part c.args.self.now.cells.now c.args.self.now.search.w c.args.y c.loop-x.x c.right-x1.result)
      c.args.self.now.search.threshold c.blocks_below-x.result
  low = rw c.row.ensures at c.blocks_below-x.ensures

  few : c.blocks_below-x.result ≤ c.right-x1.result - c.loop-x.x
  few = below-few c.args.self.now.cells.now c.args.self.now.search c.loop-x.x c.args.y _ _ c.args.self.now.search.threshold low

  after :
      PlacesSkipped c.args.self.now.cells.now c.args.self.now.search (place c.args.x c.args.y)
      (place (c.loop-x.x + c.blocks_below-x.result) c.args.y)
  after =
      skipped-on c.args.self.now.cells.now c.args.self.now.search c.args.x c.args.y _ c.loop-x.invariant.0 _
      (skipped-below c.args.self.now.cells.now c.args.self.now.search c.loop-x.x c.args.y _ _ c.right-x1.ensures
      (omega (arith, c.loop-x-test.true)) c.requires.in_rows.1 low)

-- a run is left there
module _ (c : Else-x1-x-lt-RUN) where
  left : c.args.self.now.search.border ≤ c.loop-x.x + c.blocks_below-x.result
  left = omega (arith, c.requires.in_columns.0, (after (goal.at.Else-x1-x-lt-RUN c).After-blocks_below-x).onward)

  room : c.loop-x.x + c.blocks_below-x.result + run_cells ≤ c.args.self.now.search.w - c.args.self.now.search.border
  room = omega (arith, c.right-x1.ensures, few (goal.at.Else-x1-x-lt-RUN c).After-blocks_below-x, c.loop-x.invariant.1)

pub loop-x-init : goal.loop-x-init
loop-x-init c = (skipped-none _ _ _ _, omega (arith, c.right-x1.ensures))

pub overflow_add-x : goal.overflow_add-x
overflow_add-x c = omega (arith, few c)

pub overflow_sub-x1-in-loop-x : goal.overflow_sub-x1-in-loop-x
overflow_sub-x1-in-loop-x c = omega (arith, few c, c.loop-x.invariant.1)

pub returns-then-x1-x-lt-RUN : goal.returns-then-x1-x-lt-RUN
returns-then-x1-x-lt-RUN c = (
  after (goal.at.returns-then-x1-x-lt-RUN c).After-blocks_below-x,
  omega (arith, few (goal.at.returns-then-x1-x-lt-RUN c).After-blocks_below-x, c.loop-x.invariant.1, c.right-x1.ensures),
)

pub run_passed-n-requires : goal.run_passed-n-requires
run_passed-n-requires c =
    let here = (goal.at.run_passed-n-requires c).Else-x1-x-lt-RUN in
    run_in _ _ c.args.self.now.searchable _ _ (left here) (room here) c.requires.in_rows.0 c.requires.in_rows.1

-- and after the cells of that run that are passed over
passed : (c : After-run_passed-n)
    → PlacesSkipped c.args.self.now.cells.now c.args.self.now.search (place c.args.x c.args.y)
    (place (c.loop-x.x + c.blocks_below-x.result + c.run_passed-n.result) c.args.y)
passed c =
    skipped-on c.args.self.now.cells.now c.args.self.now.search c.args.x c.args.y _
    (after (goal.at.After-run_passed-n c).After-blocks_below-x) _
    (run-skipped c.args.self.now.cells.now c.args.self.now.search c.args.self.now.searchable _ c.args.y
    (left (goal.at.After-run_passed-n c).Else-x1-x-lt-RUN)
    (room (goal.at.After-run_passed-n c).Else-x1-x-lt-RUN) c.requires.in_rows.0 c.requires.in_rows.1 _
    c.run_passed-n.ensures)

pub returns-then-n-lt-RUN : goal.returns-then-n-lt-RUN
returns-then-n-lt-RUN c = (
  passed (goal.at.returns-then-n-lt-RUN c).After-run_passed-n,
  omega (arith, room (goal.at.returns-then-n-lt-RUN c).Else-x1-x-lt-RUN, c.run_passed-n.ensures.within),
)

pub loop-x-preserved : goal.loop-x-preserved
loop-x-preserved c =
    let whole : c.run_passed-n.result ≡ run_cells = omega (arith, c.run_passed-n.ensures.within) in (
      subst (λ (n : ℕ). PlacesSkipped c.args.self.now.cells.now c.args.self.now.search (place c.args.x c.args.y)
          (place (c.loop-x.x + c.blocks_below-x.result + n) c.args.y)) whole (passed (goal.at.loop-x-preserved c).After-run_passed-n),
      omega (arith, room (goal.at.loop-x-preserved c).Else-x1-x-lt-RUN, c.right-x1.ensures),
    )

pub returns : goal.returns
returns c = (c.loop-x.invariant.0, omega (arith, c.loop-x.invariant.1, c.right-x1.ensures))
