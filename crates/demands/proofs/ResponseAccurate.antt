-- From `patch-accurate` and `map-accurate` of accuracy. Assumes nothing.
use mathlib.Core.Path.{refl}
use lib.Ieee.{nan}
use Rattle.std.specs.Prelude.{Ok}
use Rattle.accuracy.proofs.Cells.{patch-accurate, map-accurate}
use Rattle.demands.specs.ResponseCall.{view_in}
use Rattle.demands.specs.ResponseAccurate.{ResponseAccurate}

pub response_accurate : ResponseAccurate
response_accurate = record {
  call = λ c p at.
      patch-accurate (view_in c) c.ring c.before c.after (Ok (record { w = c.pw; h = c.ph })) c.pw c.ph c.promise refl
      c.bytes p.x p.y nan
      at.0 at.1;
  any_ring = λ a p at. map-accurate a.view a.bytes p.x p.y nan at.0 at.1;
}
