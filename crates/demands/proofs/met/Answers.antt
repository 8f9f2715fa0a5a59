-- `demands::met` meets its contract. Assumes nothing.
use Rattle.demands.proofs.Demands.{demands}
use Rattle.demands.proofs.met.Goals as goal

pub returns : goal.returns
returns c = demands
