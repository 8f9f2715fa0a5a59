-- `merge_settle::settle_list` meets its contract: the list is settled whole, or as far as the buffer has places, and the table cleared.
-- Assumes nothing.
use Prim.Native.Nat.{min}
use mathlib.Core.Path.{ap, ◌∙◌}
use Rattle.merge_settle.proofs.Stepping.{stops-held}
use Rattle.merge_settle.proofs.settle_list.Goals as goal

pub returns-then-slots-gt0-clause-settles : goal.returns-then-slots-gt0-clause-settles
returns-then-slots-gt0-clause-settles c =
    stops-held _ _ _ _ _ _ _ (c.min-held.ensures ∙ ap (min _) c.places.ensures) c.merge_with-t.ensures.stopped

pub returns-clause-settles : goal.returns-clause-settles
returns-clause-settles c =
    stops-held _ _ _ _ _ _ _ (c.min-held.ensures ∙ ap (min _) c.places.ensures) c.merge_up_to-s.ensures.stopped
