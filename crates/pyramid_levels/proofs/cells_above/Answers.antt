-- `pyramid_levels::cells_above` meets its contract. Assumes nothing.
use mathlib.Core.Path.{◌∙◌}
use Rattle.pyramid_levels.proofs.cells_above.Goals as goal

pub returns : goal.returns
returns c = c.cells_before.ensures ∙ rw c.level_count.ensures
