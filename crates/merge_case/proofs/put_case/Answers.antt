-- `merge_case::put_case` meets its contract: the literals are the case's coordinates. Assumes nothing.
use lib.Ieee.{of_bits}
use Rattle.merge_case.proofs.Steps.{three-put, three-fit}
use Rattle.merge_case.proofs.put_case.Goals as goal

pub returns-clause-put : goal.returns-clause-put
unfolding of_bits
returns-clause-put c =
    three-put _ _ _ _ _ _ _ c.requires c.unit_corner.ensures c.unit_corner-2.ensures c.unit_corner-3.ensures
    c.put.ensures.put c.put-2.ensures.put c.put-3.ensures.put

pub returns-clause-bound : goal.returns-clause-bound
unfolding of_bits
returns-clause-bound c =
    three-fit _ _ _ _ _ _ _ c.requires c.unit_corner.ensures c.unit_corner-2.ensures c.unit_corner-3.ensures
    c.put.ensures.put c.put-2.ensures.put c.put-3.ensures.put
