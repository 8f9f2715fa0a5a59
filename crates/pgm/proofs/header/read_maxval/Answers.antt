-- `pgm::header::read_maxval` meets its contract. Assumes nothing.
use mathlib.Core.Path.{sym, ◌∙◌}
use Rattle.pgm.proofs.Judging.{maxval-read}
use Rattle.pgm.proofs.header.read_maxval.Goals as goal

pub returns : goal.returns
returns c =
    let number = c.in_ok-maxval.ensures in
    let space = sym c.begins_space.ensures.value ∙ c.if-not-begins_space.false in
    maxval-read _ _ c.requires _ number space
