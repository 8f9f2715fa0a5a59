-- `finder::params_of` meets its contract. Assumes nothing.
use Rattle.finder.proofs.params_of.Goals as goal

pub returns : goal.returns
returns c = rw (c.from_bits.ensures, c.from_bits-2.ensures)
