use mathlib.Core.Path.{◌≡◌}
use Rattle.lists.proofs.Tab.{Prefix}
use Rattle.ring.specs.Ring.{ring_of}
use Rattle.ring.specs.Offsets.{offsets_of}
use Rattle.response.specs.Internal.{offset_at}
use Rattle.response.proofs.tile.offsets_in.Given as goal

abbrev pub invariant-loop-k : goal.invariant-loop-k
invariant-loop-k l = Prefix 16 (offset_at (ring_of l.ring) l.w) l.k l.off × (l.t ≡ offsets_of (ring_of l.ring))
