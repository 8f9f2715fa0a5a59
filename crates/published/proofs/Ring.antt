-- The rings are the published ones: by computing both tables. Assumes nothing.
use mathlib.Core.Path.{◌≡◌, refl}
use mathlib.Core.Bool.{Bool, true, false, cond}
use lib.Dec.{eqb}
use Rattle.ring.specs.Ring.{ring5, ring10, ring_of}
use Rattle.published.specs.RingRs.{table5, table10, ring_offsets, offsets_of, RingAsPublished}

pub ring-as-published : RingAsPublished
unfolding ring_of ring5 ring10 ring_offsets table5 table10
ring-as-published radius = go (eqb radius 10)
  where
    go : (b : Bool) → (cond b table10 table5 ≡ offsets_of (cond b ring10 ring5)) × (cond b 10 5 ≡ (cond b ring10 ring5).radius)
    go true = (refl, refl)
    go false = (refl, refl)
