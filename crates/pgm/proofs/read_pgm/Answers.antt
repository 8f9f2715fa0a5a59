-- `pgm::read_pgm` meets its contract, refused or not. Assumes nothing.
use mathlib.Core.Path.{sym, ◌∙◌}
use Rattle.pgm.proofs.Judging.{sides-none, sides-large, maxval-none, pixels-short, maxval-other, pixels-read}
use Rattle.pgm.proofs.read_pgm.Goals as goal

pub returns-in_default : goal.returns-in_default
returns-in_default c = sides-none _ c.in_default.ensures

pub returns-then-is_large : goal.returns-then-is_large
returns-then-is_large c = sides-large _ _ c.in-Some.ensures (sym c.is_large.ensures ∙ c.if-is_large.true)

pub returns-in_default-read_maxval : goal.returns-in_default-read_maxval
returns-in_default-read_maxval c =
    maxval-none _ _ c.in-Some.ensures (sym c.is_large.ensures ∙ c.if-is_large.false) c.in_default-read_maxval.ensures

pub returns-then-upload-maxval : goal.returns-then-upload-maxval
returns-then-upload-maxval c =
    pixels-short _ _ c.in-Some.ensures (sym c.is_large.ensures ∙ c.if-is_large.false) _ c.in-Some-read_maxval.ensures
    c.if-upload-maxval.true

pub returns-then-maxval-ne255 : goal.returns-then-maxval-ne255
returns-then-maxval-ne255 c =
    maxval-other _ _ c.in-Some.ensures (sym c.is_large.ensures ∙ c.if-is_large.false) _ c.in-Some-read_maxval.ensures
    c.if-upload-maxval.false
    c.if-maxval-ne255.true

pub returns : goal.returns
returns c =
    pixels-read _ _ c.in-Some.ensures (sym c.is_large.ensures ∙ c.if-is_large.false) _ c.in-Some-read_maxval.ensures
    c.if-upload-maxval.false
    c.if-maxval-ne255.false
