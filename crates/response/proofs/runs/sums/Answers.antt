-- `response::runs::sums` meets its contract. Assumes nothing.
use native.Mathlib.Omega.{arith}
use borrow.Author.Rules.{rules}
use Rattle.ring.proofs.Places.{radius-small}
use Rattle.response.proofs.Samples.{summed-set}
use Rattle.response.proofs.Tiles.{tile-framed, tile-fits}
use Rattle.response.proofs.runs.sums.Goals as goal

pub overflow_cast-offsets_in : goal.overflow_cast-offsets_in
overflow_cast-offsets_in g c = omega (arith, radius-small g.row.RADIUS, c.requires.0.own_radius)

pub offsets_in-off-requires : goal.offsets_in-off-requires
offsets_in-off-requires g c = omega (arith, c.args.tile.now.narrow)

pub loop-i-init : goal.loop-i-init
loop-i-init g c = record { long = c.requires.1; cells = λ i l. absurd (omega arith) }

pub cell_sums-p-requires : goal.cell_sums-p-requires
cell_sums-p-requires g c = (
  tile-fits _ _ c.args.tile.now.all c.args.tile.now.narrow,
  (
    tile-framed _ _ _ _ c.args.tile.now.long c.args.tile.now.narrow c.requires.0.own_radius c.offsets_in-off.ensures,
    record { left = omega arith; right = search rules; above = c.requires.0.above; below = c.requires.0.below },
  ),
)

pub loop-i-preserved : goal.loop-i-preserved
loop-i-preserved g c = summed-set _ _ _ _ _ _ _ _ _ _ (search rules) c.loop-i.invariant c.cell_sums-p.ensures
