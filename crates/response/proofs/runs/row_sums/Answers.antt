-- `response::runs::row_sums` meets its contract: the radius written out is that of the call. Assumes nothing.
use mathlib.Core.Path.{◌≡◌}
use Prim.Native.Nat.{ℕ}
use Rattle.response.specs.Internal.{CellsInRow}
use Rattle.response.proofs.Tiles.{other-ring, tile-fits}
use Rattle.response.proofs.runs.row_sums.Goals as goal

-- a row of cells, with its radius written out
written : (s r y n r' : ℕ) → r ≡ r' → CellsInRow s r y n → CellsInRow s r' y n
written s r y n r' e p = rw (← e) p

pub sums-requires : goal.sums-requires
sums-requires g c =
    (tile-fits _ _ c.args.tile.now.all c.args.tile.now.narrow, (written _ _ _ _ _ c.if-radius-eq5.true c.requires.0, c.requires.1))

pub sums-requires-else-radius-eq5 : goal.sums-requires-else-radius-eq5
sums-requires-else-radius-eq5 g c = (
  tile-fits _ _ c.args.tile.now.all c.args.tile.now.narrow,
  (written _ _ _ _ _ (other-ring _ c.requires.0.own_radius c.if-radius-eq5.false) c.requires.0, c.requires.1),
)

pub returns-else-radius-eq5 : goal.returns-else-radius-eq5
returns-else-radius-eq5 g c = rw (other-ring _ c.requires.0.own_radius c.if-radius-eq5.false) c.sums-else-radius-eq5.ensures
