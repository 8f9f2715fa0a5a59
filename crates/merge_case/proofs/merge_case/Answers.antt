-- `merge_case::merge_case` meets its contract, by the case of each merge. Assumes nothing.
use lib.Ieee.{of_bits}
use Rattle.merge_case.proofs.Steps.{left-by-cells, left-by-distance}
use Rattle.merge_case.proofs.merge_case.Goals as goal

pub returns-then-cells-clause-left : goal.returns-then-cells-clause-left
unfolding of_bits
returns-then-cells-clause-left c =
    left-by-cells _ c.requires.bound c.requires.neighbours_value _ _ _ c.unwrap_or.ensures _ c.if-cells.true
    c.merge_corners_simple.ensures.merged

pub returns-clause-left : goal.returns-clause-left
unfolding of_bits
returns-clause-left c =
    left-by-distance _ c.requires.bound c.requires.neighbours_value _ _ _ c.unwrap_or-2.ensures _ c.if-cells.false
    c.merge_corners_naive.ensures.merged
