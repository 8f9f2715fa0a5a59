use Rattle.lists.proofs.Tab.{Prefix}
use lib.ListN.{length}
use Rattle.response.specs.Internal.{response_from}
use Rattle.response.proofs.runs.values.Given as goal

abbrev pub invariant-loop-i : goal.invariant-loop-i
invariant-loop-i l = Prefix (length l.initial.cells) (response_from l.row) l.i l.cells
