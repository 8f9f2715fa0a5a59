use Rattle.lists.specs.Tab.{pixel}
use Prim.Native.Nat.{◌+◌}
use Rattle.response.specs.Internal.{Bytes, Filled, tile_rows}
use Rattle.response.proofs.tile.Tile.widen.Given as goal

abbrev pub invariant-loop-j : goal.invariant-loop-j
invariant-loop-j g l =
    Filled 0 g.row.ROW tile_rows (λ p q. pixel l.img l.w (l.x + p) (l.y + q)) 0 l.n 0 l.j l.initial.places l.places × Bytes l.places
