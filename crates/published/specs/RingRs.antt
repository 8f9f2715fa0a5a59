-- ring.rs: the two tables as written there, and `ring_offsets`.
use Rattle.std.specs.Prelude.{ℕ, ◌≡◌, cond, List, [], ◌∷◌, map, eqb, ℤ, pos, neg_ℤ}
use Rattle.std.proofs.Math.IntN.{sub_ℕ}
use Rattle.ring.specs.Ring.{Ring, ring_of}

abbrev pub Offset : Type 0
Offset = ℤ × ℤ

abbrev neg : ℕ → ℤ
neg n = neg_ℤ (pos n)

-- RING5
unfoldable pub table5 : List Offset
table5 =
    (pos 0, neg 5)
    ∷ (pos 2, neg 5)
    ∷ (pos 3, neg 3)
    ∷ (pos 5, neg 2)
    ∷ (pos 5, pos 0)
    ∷ (pos 5, pos 2)
    ∷ (pos 3, pos 3)
    ∷ (pos 2, pos 5)
    ∷ (pos 0, pos 5)
    ∷ (neg 2, pos 5)
    ∷ (neg 3, pos 3)
    ∷ (neg 5, pos 2)
    ∷ (neg 5, pos 0)
    ∷ (neg 5, neg 2)
    ∷ (neg 3, neg 3)
    ∷ (neg 2, neg 5)
    ∷ []

-- RING10
unfoldable pub table10 : List Offset
table10 =
    (pos 0, neg 10)
    ∷ (pos 4, neg 10)
    ∷ (pos 6, neg 6)
    ∷ (pos 10, neg 4)
    ∷ (pos 10, pos 0)
    ∷ (pos 10, pos 4)
    ∷ (pos 6, pos 6)
    ∷ (pos 4, pos 10)
    ∷ (pos 0, pos 10)
    ∷ (neg 4, pos 10)
    ∷ (neg 6, pos 6)
    ∷ (neg 10, pos 4)
    ∷ (neg 10, pos 0)
    ∷ (neg 10, neg 4)
    ∷ (neg 6, neg 6)
    ∷ (neg 4, neg 10)
    ∷ []

-- `ring_offsets`, and the radius of `RingOffsets::from_radius`
unfoldable pub ring_offsets : ℕ → List Offset
ring_offsets radius = cond (eqb radius 10) table10 table5

abbrev pub ring_radius : ℕ → ℕ
ring_radius radius = cond (eqb radius 10) 10 5

-- a place of the ring's square relative to its centre, and all places of a ring in this way
abbrev pub from_centre : ℕ → ℕ × ℕ → Offset
from_centre radius p = (sub_ℕ p.0 radius, sub_ℕ p.1 radius)

abbrev pub offsets_of : Ring → List Offset
offsets_of t = map (from_centre t.radius) t.places

abbrev pub RingAsPublished : Type 0
RingAsPublished =
    (radius : ℕ) → (ring_offsets radius ≡ offsets_of (ring_of radius)) × (ring_radius radius ≡ (ring_of radius).radius)
