-- Where the samples and the cross of a cell lie, and the limits that they give. Assumes nothing.
use mathlib.Core.Path.{◌≡◌, ap, ◌∙◌}
use mathlib.Core.List.{List}
use Prim.Native.Nat.{ℕ, ◌+◌, ◌*◌, ◌-◌, ◌<◌, ◌≤◌}
use native.Mathlib.Nat.{mul-le-mul}
use native.Mathlib.Omega.{arith}
use lib.IntN.{ℤ, sub_ℕ}
use lib.ListN.{length, get_or}
use borrow.Author.Tests.{lt-ltb, le-leb}
use Rattle.lists.specs.Limits.{largest_side, largest_map}
use Rattle.lists.specs.Tab.{tab, pixel}
use Rattle.lists.proofs.Tab.{tab-ext}
use Rattle.lists.proofs.Places.{in_map}
use Rattle.ring.specs.Ring.{ring_of, dx, dy}
use Rattle.ring.specs.declared.RingOffsets.{RingOffsets}
use Rattle.ring.proofs.Places.{dx-le, dy-le}
use Rattle.ring.proofs.Table.{ring_of-is}
use Rattle.response.specs.Response.{samples, cross_of}
use Rattle.response.specs.Internal.{Inner}
use Rattle.response.proofs.Samples as response
use Rattle.response.proofs.Indices.{area-le}
use Rattle.response_limits.specs.Limits.{low_at, high_at}
use Rattle.response_limits.specs.Internal.{ImageWithTable, SamplesOf, limits_of}
use Rattle.response_limits.specs.declared.cell.CellSamples.{CellSamples}
use Rattle.response_limits.specs.declared.cell.CellLimits.{CellLimits}

pub rows-small : (y w : ℕ) → y ≤ largest_side + 255 → w ≤ largest_side → y * w ≤ (largest_side + 255) * largest_side
rows-small y w p q = mul-le-mul {n₂ = largest_side + 255} {m₂ = largest_side} p q

module _ (img : List ℕ) (w h radius : ℕ) (t : RingOffsets) (f : ImageWithTable img w h radius t) (x y : ℕ) (n : Inner w h radius x y) where
  column : (k : ℕ) → get_or t.columns k 0 ≡ dx (ring_of radius) k
  column k = ap (λ (o : RingOffsets). get_or o.columns k 0) f.table

  row : (k : ℕ) → get_or t.rows k 0 ≡ dy (ring_of radius) k
  row k = ap (λ (o : RingOffsets). get_or o.rows k 0) f.table

  pub sides-small : (w ≤ largest_side) × (x - radius ≤ largest_side) × (y - radius ≤ largest_side)
  sides-small = omega (arith, f.image.narrow, f.image.low, n.right, n.below)

  pub sample_in : (k : ℕ) → k < 16 → (y - radius + get_or t.rows k 0) * w + (x - radius + get_or t.columns k 0) < length img
  sample_in k l =
      let is = ring_of-is radius in
      rw (f.image.sized, column k, row k)
      (in_map w h _ _ (omega (arith, dx-le (ring_of radius) is k, f.own_radius, n.left, n.right))
      (omega (arith, dy-le (ring_of radius) is k, f.own_radius, n.above, n.below)))

  pub samples-found : (s : List ℕ) → s ≡ tab 16 (λ k. pixel img w (x - radius + get_or t.columns k 0) (y - radius + get_or t.rows k 0))
      → s ≡ samples img w (ring_of radius) x y
  unfolding samples
  samples-found s e = e ∙ tab-ext 16 _ _ (λ k l. rw (column k, row k, f.own_radius))

  pub cross-in : (w ≤ y * w + x) × (1 ≤ y * w + x) × (y * w + x + w < length img) × (y * w + x + 1 < length img)
  cross-in = rw f.image.sized (response.cross-in (ring_of radius) (ring_of-is radius) radius f.own_radius w h x y n)

  pub cross-found : (q : ℕ)
      → q ≡ get_or img (y * w + x) 0 + get_or img (y * w + x - w) 0 + get_or img (y * w + x + w) 0 + get_or img
      (y * w + x + 1) 0 + get_or img
      (y * w + x - 1) 0 → q ≡ cross_of img w x y
  cross-found q e = e ∙ response.cross-sum (ring_of radius) (ring_of-is radius) radius f.own_radius w h x y n img

  pub cell-small : y * w + x < largest_map
  cell-small =
      omega (arith, in_map w h x y (omega (arith, n.right)) (omega (arith, n.below)), area-le w h f.image.narrow f.image.low)

-- ---- the limits of a cell, as two naturals each
abbrev sampled : List ℕ → ℕ → ℕ → ℕ → ℕ → CellSamples
sampled img w radius x y = record { ring = samples img w (ring_of radius) x y; cross = cross_of img w x y }

abbrev pub cell_limits : List ℕ → List ℕ → ℕ → ℕ → ℕ → ℕ → CellLimits
cell_limits low high w radius x y = limits_of (sampled low w radius x y) (sampled high w radius x y)

module _ (low high : List ℕ) (w radius x y : ℕ) where
  pub limits-found : (p q : CellSamples) → SamplesOf low w radius x y p → SamplesOf high w radius x y q → (l : CellLimits)
      → l ≡ limits_of p q
      → l ≡ cell_limits low high w radius x y
  limits-found p q a b l e = e ∙ rw (a.ring_is, a.cross_is, b.ring_is, b.cross_is)

  module _ (h : ℕ) (own : (ring_of radius).radius ≡ radius) (n : Inner w h radius x y) (a b : ℕ) where
    pub low-found : a ≡ (cell_limits low high w radius x y).low_gain → b ≡ (cell_limits low high w radius x y).low_cost → (v : ℤ)
        → v ≡ sub_ℕ a b
        → v ≡ low_at low high w h (ring_of radius) x y
    unfolding low_at
    low-found ea eb v e =
        rw (e, ea, eb, own, le-leb _ _ n.left, lt-ltb _ _ n.right, le-leb _ _ n.above, lt-ltb _ _ n.below)

    pub high-found : a ≡ (cell_limits low high w radius x y).high_gain → b ≡ (cell_limits low high w radius x y).high_cost
        → (v : ℤ) → v ≡ sub_ℕ a b
        → v ≡ high_at low high w h (ring_of radius) x y
    unfolding high_at
    high-found ea eb v e =
        rw (e, ea, eb, own, le-leb _ _ n.left, lt-ltb _ _ n.right, le-leb _ _ n.above, lt-ltb _ _ n.below)
