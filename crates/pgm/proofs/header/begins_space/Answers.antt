-- `pgm::header::begins_space` meets its contract: nothing stands past the end, and else the byte at the place. Assumes nothing.
use mathlib.Core.Path.{sym, ◌∙◌}
use borrow.Author.Tests.{le-ltb}
use Rattle.pgm.proofs.Scanning.{begins-end, begins-here}
use Rattle.pgm.proofs.header.begins_space.Goals as goal

pub returns-then-at-upload-clause-value : goal.returns-then-at-upload-clause-value
returns-then-at-upload-clause-value c = c.is_space.ensures ∙ sym (begins-here _ _ _ c.if-at-upload.true c.requires)

pub returns-else-at-upload-clause-value : goal.returns-else-at-upload-clause-value
returns-else-at-upload-clause-value c = le-ltb _ _ c.if-at-upload.false ∙ sym (begins-end _ _ _ c.if-at-upload.false)
