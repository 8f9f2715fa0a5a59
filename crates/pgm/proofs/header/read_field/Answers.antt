-- `pgm::header::read_field` meets its contract. Assumes nothing.
use mathlib.Core.Path.{sym, ◌∙◌}
use Rattle.pgm.proofs.Fields.{field-read, field-none}
use Rattle.pgm.proofs.header.read_field.Goals as goal

pub returns-then-not-begins_space : goal.returns-then-not-begins_space
returns-then-not-begins_space c = field-none _ (sym c.begins_space.ensures.value ∙ c.if-not-begins_space.true)

pub returns : goal.returns
returns c =
    field-read _ _ _ (sym c.begins_space.ensures.value ∙ c.if-not-begins_space.false) c.skip_space.ensures _
    c.read_number.ensures
