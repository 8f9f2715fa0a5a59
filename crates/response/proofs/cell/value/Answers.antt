-- `response::cell::value` meets its contract. Assumes nothing.
use lib.Ieee.{of_bits, of_int}
use Rattle.response.specs.Response.{response_of}
use Rattle.response.proofs.Floats.{means}
use Rattle.response.proofs.cell.value.Goals as goal

pub returns : goal.returns
unfolding response_of of_bits of_int
returns c =
    rw (c.abs.ensures, means c.args.sum c.args.cross c.ranges.sum.fits c.ranges.cross.fits)
