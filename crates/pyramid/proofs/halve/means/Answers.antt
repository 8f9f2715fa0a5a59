-- `pyramid::halve::means` meets its contract: the places passed hold their half-size pixels. Assumes nothing.
use native.Mathlib.Omega.{arith}
use mathlib.Core.Path.{◌≡◌}
use Rattle.lists.proofs.Tab.{prefix-none, prefix-set}
use Rattle.pyramid.proofs.halve.means.Goals as goal

pub loop-i-init : goal.loop-i-init
loop-i-init c = prefix-none _ _ _ c.requires.3

pub loop-i-preserved : goal.loop-i-preserved
loop-i-preserved c = prefix-set _ _ _ _ _ c.loop-i.invariant (omega arith) c.mean.ensures

pub returns : goal.returns
returns c =
    let all : c.loop-i.i ≡ c.args.n = omega arith in
    record { long = c.loop-i.invariant.long; front = rw all at c.loop-i.invariant.front }
