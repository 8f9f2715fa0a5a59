-- Where the samples and the cross of a cell lie, for any ring whose square about the cell lies in the image. Assumes nothing.
use mathlib.Core.Path.{◌≡◌, sym, ap, ◌∙◌, subst}
use mathlib.Core.List.{List}
use Prim.Native.Nat.{ℕ, ◌+◌, ◌*◌, ◌-◌, ◌<◌, ◌≤◌}
use native.Mathlib.Omega.{arith}
use lib.Ieee.{Float}
use lib.ListN.{length, get_or, set, length-set}
use lib.Seq.{get_or-set_same, get_or-set_other}
use native.Mathlib.Decide.{dec_lt}
use Rattle.lists.specs.Limits.{largest_map}
use Rattle.lists.specs.Tab.{tab}
use Rattle.lists.proofs.Tab.{get_d-tab, get_d-tab-any, tab-ext}
use Rattle.lists.proofs.Places.{in_map}
use Rattle.ring.specs.Ring.{Ring, dx, dy, IsRing}
use Rattle.ring.proofs.Places.{dx-le, dy-le, radius-pos}
use Rattle.response.specs.Response.{samples, sr_of, dr_of, cross_of, response_of, response}
use Rattle.response.specs.declared.Held.{Held}
use Rattle.response.specs.declared.runs.RowSums.{RowSums}
use Rattle.response.specs.OnePass.{passed_after}
use Rattle.response.specs.Internal.{offset_at, Bytes, SumsBounded, ImageWithOffsets, Inner, RingSumsOf, CellSumsOf, SumPlaces}
use Rattle.response.specs.Internal.{CellsSummed, block_columns}
use Rattle.response.proofs.Floats.{same-response}
use Rattle.response.proofs.OnePass.{passed-all, passed-small}
use Rattle.response.proofs.Indices.{area-le, row-above, row_below, place-add}

-- ---- any ring of a radius r
module _ (t : Ring) (is : IsRing t) (r : ℕ) (e : t.radius ≡ r) (w h x y : ℕ) (n : Inner w h r x y) where
  -- place k of the ring, counted from the corner of its square
  pub sample-place : (k : ℕ) → (y - r) * w + (x - r) + offset_at t w k ≡ (y - t.radius + dy t k) * w + (x - t.radius + dx t k)
  sample-place k = rw e (place-add w (x - r) (y - r) (dx t k) (dy t k))

  pub sample_in : (k : ℕ) → (y - r) * w + (x - r) + offset_at t w k < w * h
  sample_in k =
      rw (sample-place k)
      (in_map w h _ _ (omega (arith, dx-le t is k, n.left, n.right)) (omega (arith, dy-le t is k, n.above, n.below)))

  -- the cross about the cell's own index
  pub cross-sum : (img : List ℕ)
      → get_or img (y * w + x) 0 + get_or img (y * w + x - w) 0 + get_or img (y * w + x + w) 0 + get_or img (y * w + x + 1) 0 + get_or img
      (y * w + x - 1) 0 ≡ cross_of img w x y
  cross-sum img =
      let up : y * w + x - w ≡ (y - 1) * w + x = omega (arith, row-above w y (omega (arith, radius-pos t is, n.above))) in
      let down : y * w + x + w ≡ (y + 1) * w + x = omega (arith, row_below w y) in
      let right : y * w + x + 1 ≡ y * w + (x + 1) = omega arith in
      let left : y * w + x - 1 ≡ y * w + (x - 1) = omega (arith, radius-pos t is, n.left) in
      rw (up, down, right, left)

  pub cross-in : (w ≤ y * w + x) × (1 ≤ y * w + x) × (y * w + x + w < w * h) × (y * w + x + 1 < w * h)
  cross-in =
      let one : 1 ≤ r = omega (arith, radius-pos t is) in
      omega (
        arith,
        row-above w y (omega (arith, n.above)),
        row_below w y,
        in_map w h x (y + 1) (omega (arith, n.right)) (omega (arith, n.below)),
        in_map w h (x + 1) y (omega (arith, n.right)) (omega (arith, n.below)),
        n.left,
      )

-- ---- the same with the offsets in an array
module _ (img : List ℕ) (w h : ℕ) (t : Ring) (radius : ℕ) (off : List ℕ) (f : ImageWithOffsets img w h t radius off) (x y : ℕ)
    (n : Inner w h radius x y) where
  offset-is : (k : ℕ) → k < 16 → get_or off k 0 ≡ offset_at t w k
  offset-is k l = rw f.offsets (get_d-tab 16 (offset_at t w) k 0 l)

  pub sample-lt : (k : ℕ) → k < 16 → (y - radius) * w + (x - radius) + get_or off k 0 < length img
  sample-lt k l = rw (offset-is k l, f.image.sized) (sample_in t f.is-ring radius f.own_radius w h x y n k)

  gathered : tab 16 (λ k. get_or img ((y - radius) * w + (x - radius) + get_or off k 0) 0) ≡ samples img w t x y
  unfolding samples
  gathered =
      tab-ext 16 _ _ (λ k l. ap (λ (i : ℕ). get_or img i 0)
      (rw (offset-is k l) (sample-place t f.is-ring radius f.own_radius w h x y n k)))

  -- the sums that the code finds are the cell's
  pub ring-found : (s : List ℕ) (r : Held) → s ≡ tab 16 (λ k. get_or img ((y - radius) * w + (x - radius) + get_or off k 0) 0)
      → r ≡ passed_after s 8
      → RingSumsOf (samples img w t x y) r.sr r.dr r.sum
  ring-found s r e f =
      subst (λ (l : List ℕ). RingSumsOf l r.sr r.dr r.sum) (e ∙ gathered)
      (subst (λ (h : Held). RingSumsOf s h.sr h.dr h.sum) (sym f) (passed-all s))

  pub cross-found : (q : ℕ)
      → q ≡ get_or img (y * w + x) 0 + get_or img (y * w + x - w) 0 + get_or img (y * w + x + w) 0 + get_or img
      (y * w + x + 1) 0 + get_or img
      (y * w + x - 1) 0 → q ≡ cross_of img w x y
  cross-found q e = e ∙ cross-sum t f.is-ring radius f.own_radius w h x y n img

  pub cross-lies : (w ≤ y * w + x) × (1 ≤ y * w + x) × (y * w + x + w < length img) × (y * w + x + 1 < length img)
  cross-lies = rw f.image.sized (cross-in t f.is-ring radius f.own_radius w h x y n)

  -- how many pixels there are; the corner of the ring's square and the cell itself, as indices
  pub pixels-small : length img ≤ largest_map
  pixels-small = omega (arith, f.image.sized, area-le w h f.image.narrow f.image.low)

  pub corner-small : (y - radius) * w + (x - radius) < largest_map
  corner-small =
      omega (
        arith,
        in_map w h (x - radius) (y - radius) (omega (arith, n.right)) (omega (arith, n.below)),
        area-le w h f.image.narrow f.image.low,
      )

  pub cell-small : y * w + x < largest_map
  cell-small =
      omega (arith, in_map w h x y (omega (arith, n.right)) (omega (arith, n.below)), area-le w h f.image.narrow f.image.low)

-- what is gathered from bytes are bytes
pub gathered-bytes : (img : List ℕ) (base : ℕ) (off : List ℕ) → Bytes img → (s : List ℕ)
    → s ≡ tab 16 (λ k. get_or img (base + get_or off k 0) 0) → Bytes s
gathered-bytes img base off b s e i =
    rw e (get_d-tab-any (λ (n : ℕ). n < 256) 0 (omega arith) (λ k. get_or img (base + get_or off k 0) 0)
    (λ k. b (base + get_or off k 0)) 16 i)

-- so the sums of a ring are small, and so is what they differ by
pub held_small : (s : List ℕ) (r : Held) → Bytes s → r ≡ passed_after s 8 → SumsBounded 8 r
held_small s r b e = subst (SumsBounded 8) (sym e) (passed-small s b 8)

pub balanced : (img : List ℕ) (w : ℕ) (t : Ring) (x y : ℕ) (r : Held) (b q : ℕ)
    → RingSumsOf (samples img w t x y) r.sr r.dr r.sum → SumsBounded 8 r
    → b ≡ r.sr + 4096 - r.dr → q ≡ cross_of img w x y → CellSumsOf img w t x y b r.sum q
balanced img w t x y r b q ring small is cross =
    record {
      balance_is = omega (arith, ring.sr_is, ring.dr_is, small.dr_small);
      sr_small = omega (arith, ring.sr_is, small.sr_small);
      dr_small = omega (arith, ring.dr_is, small.dr_small);
      sum_is = ring.sum_is;
      cross_is = cross;
    }

-- the float of a cell's sums is its response
pub assembled : (img : List ℕ) (w : ℕ) (t : Ring) (x y b m q : ℕ) (v : Float) → CellSumsOf img w t x y b m q → v ≡ response_of b 4096 m q
    → v ≡ response img w t x y
unfolding response
assembled img w t x y b m q v p e =
    let s : List ℕ = samples img w t x y in
    e ∙ same-response b 4096 (sr_of s) (dr_of s) p.balance_is (omega (arith, p.balance_is, p.sr_small)) (omega arith)
    (omega (arith, p.sr_small))
    (omega (arith, p.dr_small)) m q ∙ (rw (p.sum_is, p.cross_is))

-- ---- the sums of a run
abbrev with_sums : RowSums → ℕ → ℕ → ℕ → ℕ → RowSums
with_sums r i p q v = record { balance = set r.balance i p; sum = set r.sum i q; cross = set r.cross i v }

pub summed-set : (tile : List ℕ) (w : ℕ) (t : Ring) (radius y i : ℕ) (r : RowSums) (p q v : ℕ) → i < block_columns
    → CellsSummed tile w t radius y i r
    → CellSumsOf tile w t (radius + i) y p q v → CellsSummed tile w t radius y (i + 1) (with_sums r i p q v)
summed-set tile w t radius y i r p q v small sums new =
    record {
      long =
          record {
            balance_long = length-set r.balance i p ∙ long.balance_long;
            sum_long = length-set r.sum i q ∙ long.sum_long;
            cross_long = length-set r.cross i v ∙ long.cross_long;
          };
      cells = cells;
    }
  where
    long : SumPlaces r
    long = sums.long

    cells : (k : ℕ) → k < i + 1 → CellSumsOf tile w t (radius + k) y (get_or (set r.balance i p) k 0) (get_or (set r.sum i q) k 0)
        (get_or (set r.cross i v) k 0)
    cells k l = elim (dec_lt k i) [
      | yes x ↦
          let other : k ≡ i → ⊥ = λ e. absurd (omega arith) in
          rw (get_or-set_other r.balance i k p 0 other, get_or-set_other r.sum i k q 0 other, get_or-set_other r.cross i k v 0 other)
          (sums.cells k x)
      | no x ↦
          let same : k ≡ i = omega arith in
          rw (
            same,
            get_or-set_same r.balance i p 0 (omega (arith, long.balance_long)),
            get_or-set_same r.sum i q 0 (omega (arith, long.sum_long)),
            get_or-set_same r.cross i v 0 (omega (arith, long.cross_long)),
          )
          new
    ]
