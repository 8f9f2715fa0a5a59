-- `response_limits::cell::limits` meets its contract. Assumes nothing.
use Rattle.response_limits.proofs.cell.limits.Goals as goal

pub returns : goal.returns
returns c = rw (c.gain.ensures, c.cost.ensures, c.gain-2.ensures, c.cost-2.ensures)
