-- `pgm::header::skip_space` meets its contract. The invariant: what is behind the whitespace from this place on is what is behind it from
-- the first. Assumes nothing.
use mathlib.Core.Path.{sym, ◌∙◌}
use Rattle.pgm.proofs.Scanning.{passing-next}
use Rattle.pgm.proofs.header.skip_space.Goals as goal

pub loop-at-preserved : goal.loop-at-preserved
loop-at-preserved c =
    passing-next _ _ _ _ c.loop-at.invariant (sym c.begins_space.ensures.value ∙ c.loop-at-test.true) _ c.skip_comments-at.ensures
