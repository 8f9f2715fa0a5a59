-- `merge_settle::settling::merge_up_to`, which calls itself, meets its contract: the largest table goes on where the smaller one stopped.
-- Assumes nothing.
use native.Mathlib.Omega.{arith}
use Rattle.merge_settle.proofs.Stepping.{stops-on}
use Rattle.merge_settle.proofs.settling.+merge_up_to.Goals as goal

pub returns-clause-stopped : goal.returns-clause-stopped
returns-clause-stopped t c =
    stops-on _ _ _ _ _ _ _ _ c.merge_up_to-s.ensures.stopped _ _ _ _ c.merge_most.ensures.stopped (omega (arith, c.requires.most_le_n))
