-- `merge_settle::index::home_at` meets its contract. Assumes nothing.
use mathlib.Core.Path.{ap, ap₂, ◌∙◌}
use Rattle.merge_settle.specs.Internal.{pair_of, home_of}
use Rattle.merge_settle.proofs.index.home_at.Goals as goal

pub returns : goal.returns
returns c =
    c.home_of.ensures
    ∙ ap₂ (home_of _) (c.pair_of-x.ensures ∙ ap pair_of c.column_of.ensures)
    (c.pair_of-y.ensures ∙ ap pair_of c.row_of.ensures)
