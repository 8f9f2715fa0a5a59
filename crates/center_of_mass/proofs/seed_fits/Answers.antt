-- `center_of_mass::seed_fits` meets its contract. Assumes nothing.
use mathlib.Core.Path.{ap}
use lib.IntN.{pos}
use lib.Ieee.{Float, binary32, of_bits, of_int, le}
use Rattle.center_of_mass.specs.CenterOfMass.{furthest_seed, seed_fits}
use Rattle.center_of_mass.proofs.seed_fits.Goals as goal

pub returns : goal.returns
unfolding seed_fits of_bits
returns c = ap (λ (z : Float). le z (of_int binary32 (pos furthest_seed))) c.abs.ensures
