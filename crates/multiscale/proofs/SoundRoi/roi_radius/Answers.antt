-- `multiscale::SoundRoi::roi_radius` meets its contract. Assumes nothing.
use native.Mathlib.Omega.{arith}
use Rattle.multiscale.specs.Multiscale.{roi_radius}
use Rattle.multiscale.proofs.Contexts.{search-shifted}
use Rattle.multiscale.proofs.SoundRoi.roi_radius.Goals as goal

pub returns : goal.returns
unfolding roi_radius
returns c = omega (arith, search-shifted c.args.self.context c.args.self.sound)
