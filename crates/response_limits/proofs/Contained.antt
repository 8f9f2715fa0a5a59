-- The exact response of an image lies within the limits of any two images that it lies between, for any ring. Assumes nothing.
use mathlib.Core.Path.{◌≡◌}
use mathlib.Core.Bool.{Bool, true, false, cond}
use mathlib.Core.List.{List}
use Prim.Native.Nat.{ℕ, zero, suc, ◌+◌, ◌*◌, ◌-◌, ◌≤◌, max}
use native.Mathlib.Nat.{mul-le-mul_left}
use native.Mathlib.Decide.{dec_lt}
use native.Mathlib.Omega.{arith}
use lib.Dec.{le→leb}
use lib.IntN.{ℤ, pos, negsuc, sub_ℕ}
use lib.ListN.{length, get_or, get_or-eq_default}
use lib.Signed.{◌≤ℤ◌, ≤ℤ_refl}
use Rattle.float32.specs.Value.{plus_part, minus_part, dist, total}
use Rattle.lists.specs.Tab.{tab}
use Rattle.lists.proofs.Tab.{get_d-tab, length-tab}
use Rattle.ring.specs.Ring.{Ring}
use Rattle.response.specs.Response.{sr_of, dr_of, ring_sum_of, samples, cross_of, inside}
use Rattle.response.specs.Exact.{fifths, fifths_at}
use Rattle.accuracy.proofs.Integers.{sub_parts}
use Rattle.response_limits.specs.Limits.{Between, Range, plus, times, least_dist, greatest_dist, sr_least, sr_greatest, dr_least}
use Rattle.response_limits.specs.Limits.{dr_greatest, ring_range, low_fifths, high_fifths}
use Rattle.response_limits.specs.Limits.{range_at, sample_ranges, cross_range, low_at, high_at}

-- ---- numbers in ranges
pub record In (v : ℕ) (r : Range) : Type 0 where
  pub least : r.low ≤ v
  pub most : v ≤ r.high

in-plus : (u v : ℕ) (a b : Range) → In u a → In v b → In (u + v) (plus a b)
in-plus u v a b p q = record { least = omega (arith, p.least, q.least); most = omega (arith, p.most, q.most) }

in-times : (k v : ℕ) (a : Range) → In v a → In (k * v) (times k a)
in-times k v a p = record { least = mul-le-mul_left k p.least; most = mul-le-mul_left k p.most }

-- a term at its least and at its greatest
module _ (u v : ℕ) (a b : Range) (p : In u a) (q : In v b) where
  least-le : least_dist a b ≤ dist u v
  least-le =
      let x : a.low - b.high ≤ dist u v = omega (arith, p.least, q.most) in
      let y : b.low - a.high ≤ dist u v = omega (arith, p.most, q.least) in
      omega arith

  le-greatest : dist u v ≤ greatest_dist a b
  le-greatest =
      let x : u - v ≤ a.high - b.low = omega (arith, p.most, q.least) in
      let y : v - u ≤ b.high - a.low = omega (arith, p.least, q.most) in
      omega arith

total-le : (f g : ℕ → ℕ) (n : ℕ) → ((k : ℕ) → f k ≤ g k) → total f n ≤ total g n
unfolding total
total-le f g zero h = omega arith
total-le f g (suc n) h = omega (arith, total-le f g n h, h n)

-- ---- differences of naturals in order
le_parts : (a b : ℤ) → plus_part a + minus_part b ≤ plus_part b + minus_part a → a ≤ℤ b
le_parts (pos a) (pos b) h = record { le = le→leb a b (omega arith) }
le_parts (pos a) (negsuc b) h = absurd (let no : ⊥ = omega arith in no)
le_parts (negsuc a) (pos b) h = record { le = tt }
le_parts (negsuc a) (negsuc b) h = record { le = le→leb b a (omega arith) }

sub-le : (a b a' b' : ℕ) → a ≤ a' → b' ≤ b → sub_ℕ a b ≤ℤ sub_ℕ a' b'
sub-le a b a' b' p q = le_parts (sub_ℕ a b) (sub_ℕ a' b') (omega (arith, sub_parts a b, sub_parts a' b'))

-- ---- the sums of sixteen samples v in the ranges s, and the fifths that they give
module _ (s : ℕ → Range) (v : List ℕ) (within : (k : ℕ) → In (get_or v k 0) (s k)) where
  abbrev pair : ℕ → ℕ → ℕ
  pair j k = get_or v j 0 + get_or v k 0

  both : (j k : ℕ) → In (pair j k) (plus (s j) (s k))
  both j k = in-plus (get_or v j 0) (get_or v k 0) (s j) (s k) (within j) (within k)

  sr-least : sr_least s ≤ sr_of v
  sr-least = total-le _ _ 4 (λ k. least-le (pair k (k + 8)) (pair (k + 4) (k + 12)) _ _ (both k (k + 8)) (both (k + 4) (k + 12)))

  sr-most : sr_of v ≤ sr_greatest s
  sr-most = total-le _ _ 4 (λ k. le-greatest (pair k (k + 8)) (pair (k + 4) (k + 12)) _ _ (both k (k + 8)) (both (k + 4) (k + 12)))

  dr-least : dr_least s ≤ dr_of v
  dr-least = total-le _ _ 8 (λ k. least-le (get_or v k 0) (get_or v (k + 8) 0) (s k) (s (k + 8)) (within k) (within (k + 8)))

  dr-most : dr_of v ≤ dr_greatest s
  dr-most = total-le _ _ 8 (λ k. le-greatest (get_or v k 0) (get_or v (k + 8) 0) (s k) (s (k + 8)) (within k) (within (k + 8)))

  ring_in : In (ring_sum_of v) (ring_range s)
  ring_in = record { least = total-le _ _ 16 (λ k. (within k).least); most = total-le _ _ 16 (λ k. (within k).most) }

  module _ (c : Range) (cross : ℕ) (q : In cross c) where
    off-least : least_dist (times 5 (ring_range s)) (times 16 c) ≤ dist (5 * ring_sum_of v) (16 * cross)
    off-least = least-le _ _ _ _ (in-times 5 (ring_sum_of v) (ring_range s) ring_in) (in-times 16 cross c q)

    off-most : dist (5 * ring_sum_of v) (16 * cross) ≤ greatest_dist (times 5 (ring_range s)) (times 16 c)
    off-most = le-greatest _ _ _ _ (in-times 5 (ring_sum_of v) (ring_range s) ring_in) (in-times 16 cross c q)

    fifths-least : low_fifths s c ≤ℤ fifths (sr_of v) (dr_of v) (ring_sum_of v) cross
    fifths-least =
        let cost : 5 * dr_of v + dist (5 * ring_sum_of v) (16 * cross) ≤ 5 * dr_greatest s + greatest_dist (times 5
        (ring_range s)) (times 16 c) =
        omega (arith, dr-most, off-most) in
        sub-le _ _ _ _ (mul-le-mul_left 5 sr-least) cost

    fifths-most : fifths (sr_of v) (dr_of v) (ring_sum_of v) cross ≤ℤ high_fifths s c
    fifths-most =
        let cost : 5 * dr_least s + least_dist (times 5 (ring_range s)) (times 16 c) ≤ 5 * dr_of v + dist (5 * ring_sum_of v) (16 * cross) =
        omega (arith, dr-least, off-least) in
        sub-le _ _ _ _ (mul-le-mul_left 5 sr-most) cost

-- ---- a cell
tab-le : (f g : ℕ → ℕ) (n : ℕ) → ((i : ℕ) → f i ≤ g i) → (k : ℕ) → get_or (tab n f) k 0 ≤ get_or (tab n g) k 0
tab-le f g n h k =
    elim (dec_lt k n) [
      | yes l ↦ rw (get_d-tab n f k 0 l, get_d-tab n g k 0 l) (h k)
      | no o ↦ rw (get_or-eq_default (tab n f) 0 {n = k} (rw length-tab (omega arith))) (omega arith)
    ]

module _ (low high img : List ℕ) (b : Between low high img) where
  past : (l : List ℕ) (i : ℕ) → length l ≤ i → get_or l i 0 ≡ 0
  past l i h = get_or-eq_default l 0 {n = i} h

  pixel-least : (i : ℕ) → get_or low i 0 ≤ get_or img i 0
  pixel-least i =
      elim (dec_lt i (length img)) [ yes l ↦ b.at_least i l | no o ↦ rw (past low i (omega (arith, b.as_long))) (omega arith) ]

  pixel-most : (i : ℕ) → get_or img i 0 ≤ get_or high i 0
  pixel-most i =
      elim (dec_lt i (length img)) [ yes l ↦ b.at_most i l | no o ↦ rw (past img i (omega arith)) (omega arith) ]

  module _ (w h : ℕ) (t : Ring) (x y : ℕ) where
    samples-in : (k : ℕ) → In (get_or (samples img w t x y) k 0) (sample_ranges low high w t x y k)
    unfolding samples
    samples-in k = record { least = tab-le _ _ 16 (λ i. pixel-least _) k; most = tab-le _ _ 16 (λ i. pixel-most _) k }

    cross-in : In (cross_of img w x y) (cross_range low high w x y)
    cross-in =
        record {
          least = omega (
            arith,
            pixel-least (y * w + x),
            pixel-least ((y - 1) * w + x),
            pixel-least ((y + 1) * w + x),
            pixel-least (y * w + (x + 1)),
            pixel-least (y * w + (x - 1)),
          );
          most = omega (
            arith,
            pixel-most (y * w + x),
            pixel-most ((y - 1) * w + x),
            pixel-most ((y + 1) * w + x),
            pixel-most (y * w + (x + 1)),
            pixel-most (y * w + (x - 1)),
          );
        }

    pub at_least : low_at low high w h t x y ≤ℤ fifths_at img w h t x y
    at_least = unfold low_at in (unfold fifths_at in (go (inside w h t x y)))
      where
        go : (b : Bool) → cond b (low_fifths (sample_ranges low high w t x y) (cross_range low high w x y)) (pos 0)
            ≤ℤ (let s = samples img w t x y in cond b (fifths (sr_of s) (dr_of s) (ring_sum_of s) (cross_of img w x y)) (pos 0))
        go true = fifths-least _ (samples img w t x y) samples-in _ _ cross-in
        go false = ≤ℤ_refl (pos 0)

    pub at_most : fifths_at img w h t x y ≤ℤ high_at low high w h t x y
    at_most = unfold high_at in (unfold fifths_at in (go (inside w h t x y)))
      where
        go : (b : Bool) → (let s = samples img w t x y in cond b (fifths (sr_of s) (dr_of s) (ring_sum_of s) (cross_of img w x y)) (pos 0))
            ≤ℤ cond b (high_fifths (sample_ranges low high w t x y) (cross_range low high w x y)) (pos 0)
        go true = fifths-most _ (samples img w t x y) samples-in _ _ cross-in
        go false = ≤ℤ_refl (pos 0)

-- ---- an image between itself and itself: both limits are its response
one-dist : (a b : ℕ) → max (a - b) (b - a) ≡ dist a b
one-dist a b = omega arith

module _ (s : List ℕ) where
  one-sr : total (λ k. max (get_or s k 0 + get_or s (k + 8) 0 - (get_or s (k + 4) 0 + get_or s (k + 12) 0))
      (get_or s (k + 4) 0 + get_or s (k + 12) 0 - (get_or s k 0 + get_or s (k + 8) 0))) 4 ≡ sr_of s
  one-sr = λ i. total (λ k. one-dist (get_or s k 0 + get_or s (k + 8) 0) (get_or s (k + 4) 0 + get_or s (k + 12) 0) i) 4

  one-dr : total (λ k. max (get_or s k 0 - get_or s (k + 8) 0) (get_or s (k + 8) 0 - get_or s k 0)) 8 ≡ dr_of s
  one-dr = λ i. total (λ k. one-dist (get_or s k 0) (get_or s (k + 8) 0) i) 8

  abbrev alone : ℕ → Range
  alone = range_at s s

  one-low : (cross : ℕ) → low_fifths alone (record { low = cross; high = cross }) ≡ fifths (sr_of s) (dr_of s) (ring_sum_of s) cross
  one-low cross = λ i. sub_ℕ (5 * one-sr i) (5 * one-dr i + one-dist (5 * ring_sum_of s) (16 * cross) i)

  one-high : (cross : ℕ) → high_fifths alone (record { low = cross; high = cross }) ≡ fifths (sr_of s) (dr_of s) (ring_sum_of s) cross
  one-high cross = λ i. sub_ℕ (5 * one-sr i) (5 * one-dr i + one-dist (5 * ring_sum_of s) (16 * cross) i)

module _ (img : List ℕ) (w h : ℕ) (t : Ring) (x y : ℕ) where
  pub low-exact : low_at img img w h t x y ≡ fifths_at img w h t x y
  unfolding low_at fifths_at
  low-exact = λ i. cond (inside w h t x y) (one-low (samples img w t x y) (cross_of img w x y) i) (pos 0)

  pub high-exact : high_at img img w h t x y ≡ fifths_at img w h t x y
  unfolding high_at fifths_at
  high-exact = λ i. cond (inside w h t x y) (one-high (samples img w t x y) (cross_of img w x y) i) (pos 0)
