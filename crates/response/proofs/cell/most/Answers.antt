-- `response::cell::most` meets its contract: below 2^15 the numbers compare as i16 as they do as u16. Assumes nothing.
use Rattle.response.proofs.OnePass.{most-second, most-first}
use Rattle.response.proofs.cell.most.Goals as goal

pub returns-then-a-b : goal.returns-then-a-b
returns-then-a-b c = most-second _ _ c.requires.0 c.requires.1 c.if-a-b.true

pub returns-else-a-b : goal.returns-else-a-b
returns-else-a-b c = most-first _ _ c.requires.0 c.requires.1 c.if-a-b.false
