-- A ring as the program stores it.
use Rattle.ring.specs.Ring.{Ring, columns, rows}
use Rattle.ring.specs.declared.RingOffsets.{RingOffsets}

abbrev pub offsets_of : Ring → RingOffsets
offsets_of t = record { radius = t.radius; columns = columns t; rows = rows t }
