-- The computed response against the exact one. Two tracks through the same operations: with errors, over the common denominator 655360 = 5
-- * 2 ^ 17, in which half a unit in the last place of the means is 5; and exactly, over 16, where the cross sum is a multiple of 5. Assumes
-- nothing.
use mathlib.Core.Path.{◌≡◌, refl, sym, ap, subst}
use mathlib.Core.Logic.{⊎_elim}
use Prim.Native.Nat.{ℕ, ◌+◌, ◌-◌, ◌*◌, ◌≤◌, ◌<◌}
use native.Mathlib.Nat.{eq-zero-or-pos}
use native.Mathlib.Omega.{arith}
use mathlib.Core.Bool.{false}
use lib.Dec.{lit<}
use lib.Ieee.{Float, binary32, sub, mul}
use lib.Ieee.Exact.{HasValue}
use Rattle.float32.specs.Float32.{zero, abs, float_of}
use Rattle.float32.specs.Value.{IsValue, Within, dist}
use Rattle.float32.proofs.Values.{of-HasValue, rescale, of_int-value, plus-of-above, sub-equal}
use Rattle.float32.proofs.Approx.{value-within, restate, div-within, sub_within, abs-within, mul-within, div-exact, sub-exact, abs-exact}
use Rattle.float32.proofs.Approx.{scale-exact, plus-of-product, plus-of-abs}
use Rattle.response.specs.Response.{sixteen, five, ring_mean, cross_mean, response_of}
use Rattle.response.specs.Exact.{credit, debit}

pub whole : (n : ℕ) → n ≤ 4080 → HasValue (float_of n) false n 1
whole n h = of_int-value binary32 n (omega arith)

-- n, over any denominator
int : (n k : ℕ) → n ≤ 4080 → IsValue (float_of n) (n * k) 0 k
int n k h = rescale (float_of n) n 0 1 (n * k) 0 k (lit< tt) (omega arith) (of-HasValue (float_of n) false n 1 (whole n h))

is-sixteen : HasValue sixteen false 16 1
is-sixteen = (refl, refl)

is-five : HasValue five false 5 1
is-five = (refl, refl)

-- what the sums can be, samples being bytes
pub record InRange (sr dr ring cross : ℕ) : Type 0 where
  pub sr_small : sr ≤ 2040
  pub dr_small : dr ≤ 2040
  pub ring-small : ring ≤ 4080
  pub cross_small : cross ≤ 1275

-- ---- 16 |ring mean - cross mean|
abbrev difference : ℕ → ℕ → Float
difference ring cross = sub binary32 (ring_mean ring) (cross_mean cross)

abbrev mean_term : ℕ → ℕ → Float
mean_term ring cross = mul binary32 sixteen (abs (difference ring cross))

module _ (ring cross : ℕ) (Rs : ring ≤ 4080) (Cs : cross ≤ 1275) where
  ring-exact : IsValue (ring_mean ring) ring 0 16
  ring-exact =
      div-exact binary32 (float_of ring) sixteen 16 (ring * 1) 0 1 ring 0 4 (lit< tt) (lit< tt) is-sixteen (int ring 1 Rs)
      (omega arith) (omega arith)

  ring-near : Within (ring_mean ring) (40960 * ring) 0 655360 0
  ring-near =
      restate (ring_mean ring) ring 0 16 0 (40960 * ring) 0 655360 0 (lit< tt) (omega arith) (omega arith)
      (value-within (ring_mean ring) ring 0 16 ring-exact)

  cross-near : Within (cross_mean cross) (cross * 131072) 0 655360 5
  cross-near =
      div-within binary32 (float_of cross) five 5 (cross * 131072) 0 131072 0 8 5 (lit< tt) is-five
      (value-within (float_of cross) (cross * 131072) 0 131072 (int cross 131072 (omega arith))) (omega arith)

  term-near : Within (mean_term ring cross) (131072 * dist (5 * ring) (16 * cross)) 0 655360 240
  term-near =
      let d = sub_within binary32 (ring_mean ring) (cross_mean cross) (40960 * ring) 0
      (cross * 131072) 0 655360 0 5 8 5 ring-near cross-near (omega arith) in
      let a = abs-within (difference ring cross) (40960 * ring + 0) (0 + cross * 131072) 655360 10 d in
      let D = dist (40960 * ring + 0) (0 + cross * 131072) in
      let m = mul-within binary32 sixteen (abs (difference ring cross)) 16 0 D 0 655360 10 12 80
      (of-HasValue sixteen false 16 1 is-sixteen) a (omega arith) in
      restate (mean_term ring cross) (16 * D + 0 * 0) (16 * 0 + 0 * D) 655360 240 (131072 * dist (5 * ring) (16 * cross)) 0 655360 240
      (lit< tt) (omega arith) (omega arith) m

  module _ (k : ℕ) (K : cross ≡ 5 * k) where
    cross-exact : IsValue (cross_mean cross) (16 * k) 0 16
    cross-exact =
        div-exact binary32 (float_of cross) five 5 (cross * 1) 0 1 (16 * k) 0 4 (lit< tt) (lit< tt) is-five (int cross 1 (omega arith))
        (omega arith) (omega arith)

    abs_is : IsValue (abs (difference ring cross)) (dist (ring + 0) (0 + 16 * k)) 0 16
    abs_is =
        abs-exact (difference ring cross) (ring + 0) (0 + 16 * k) 16
        (sub-exact binary32 (ring_mean ring) (cross_mean cross) ring 0 (16 * k) 0 4 ring-exact cross-exact (omega arith))

    term-exact : IsValue (mean_term ring cross) (16 * dist (ring + 0) (0 + 16 * k)) 0 16
    term-exact =
        scale-exact binary32 sixteen (abs (difference ring cross)) 16 (dist (ring + 0) (0 + 16 * k)) 0 4
        (of-HasValue sixteen false 16 1 is-sixteen) abs_is (omega arith)

    term-plus : HasValue (mean_term ring cross) false (16 * dist (ring + 0) (0 + 16 * k)) 16
    term-plus =
        plus-of-product binary32 sixteen (abs (difference ring cross)) 16 1 (dist (ring + 0) (0 + 16 * k)) 16
        (16 * dist (ring + 0) (0 + 16 * k)) 16 (lit< tt) (lit< tt) is-sixteen
        (plus-of-abs (difference ring cross) (dist (ring + 0) (0 + 16 * k)) 16 abs_is) term-exact

-- ---- SR - DR
abbrev sums : ℕ → ℕ → Float
sums sr dr = sub binary32 (float_of sr) (float_of dr)

sums-exact : (sr dr : ℕ) → sr ≤ 2040 → dr ≤ 2040 → IsValue (sums sr dr) (sr * 16 + 0) (0 + dr * 16) 16
sums-exact sr dr Ss Ds =
    sub-exact binary32 (float_of sr) (float_of dr) (sr * 16) 0 (dr * 16) 0 4 (int sr 16 (omega arith)) (int dr 16 (omega arith))
    (omega arith)

-- ---- the response, for the exact value (c - d) / 5
pub record Computed (x : Float) (c d : ℕ) : Type 0 where
  pub near : Within x (1024 * c) (1024 * d) 5120 5
  pub exact : (a b : ℕ) → c + 5 * b ≡ d + 5 * a → IsValue x a b 1
  pub level : c ≡ d → x ≡ zero

-- c - d is a multiple of 5 only where the cross sum is
cross-fifth : (sr dr ring cross a b : ℕ) → credit sr + 5 * b ≡ debit dr ring cross + 5 * a → (k : ℕ) × (cross ≡ 5 * k)
cross-fifth sr dr ring cross a b h =
    ⊎_elim (λ l. (dr + ring + a - (sr + b + 3 * cross), omega arith)) (λ l. (sr + b + ring - (dr + a + 3 * cross), omega arith))
    (eq-zero-or-pos (16 * cross - 5 * ring))

module _ (sr dr ring cross : ℕ) (i : InRange sr dr ring cross) where
  response-near : Within (response_of sr dr ring cross) (1024 * credit sr) (1024 * debit dr ring cross) 5120 5
  unfolding response_of
  response-near =
      let B = 131072 * dist (5 * ring) (16 * cross) in
      let s = restate (sums sr dr) (sr * 16 + 0) (0 + dr * 16) 16 0 (655360 * sr) (655360 * dr) 655360 0 (lit< tt) (omega arith)
      (omega arith) (value-within (sums sr dr) (sr * 16 + 0) (0 + dr * 16) 16 (sums-exact sr dr i.sr_small i.dr_small)) in
      let x = sub_within binary32 (sums sr dr) (mean_term ring cross) (655360 * sr) (655360 * dr) B 0 655360 0 240 13 160 s
      (term-near ring cross i.ring-small i.cross_small) (omega arith) in
      restate (sub binary32 (sums sr dr) (mean_term ring cross)) (655360 * sr + 0) (655360 * dr + B) 655360 400 (1024 * credit sr)
      (1024 * debit dr ring cross) 5120 5 (lit< tt) (omega arith) (omega arith) x

  response_exact : (k a b : ℕ) → cross ≡ 5 * k → credit sr + 5 * b ≡ debit dr ring cross + 5 * a
      → IsValue (response_of sr dr ring cross) a b 1
  unfolding response_of
  response_exact k a b K e =
      let D = dist (ring + 0) (0 + 16 * k) in
      rescale (sub binary32 (sums sr dr) (mean_term ring cross)) (sr * 16 + 0 + 0) (0 + dr * 16 + 16 * D) 16 a b 1 (lit< tt) (omega arith)
      (sub-exact binary32 (sums sr dr) (mean_term ring cross) (sr * 16 + 0) (0 + dr * 16) (16 * D) 0 4
      (sums-exact sr dr i.sr_small i.dr_small) (term-exact ring cross i.ring-small i.cross_small k K) (omega arith))

  -- SR - DR and the term are then the same value, of the sign +
  response-level : (k : ℕ) → cross ≡ 5 * k → credit sr ≡ debit dr ring cross → response_of sr dr ring cross ≡ zero
  unfolding response_of
  response-level k K e =
      sub-equal binary32 (sums sr dr) (mean_term ring cross) D 16 (lit< tt) (⊎_elim same above (eq-zero-or-pos (sr - dr)))
      (term-plus ring cross i.ring-small i.cross_small k K)
    where
      D : ℕ
      D = 16 * dist (ring + 0) (0 + 16 * k)

      above : 0 < sr - dr → HasValue (sums sr dr) false (16 * dist (ring + 0) (0 + 16 * k)) 16
      above h =
          subst (λ (z : ℕ). HasValue (sums sr dr) false z 16) (omega arith)
          (plus-of-above (sums sr dr) (sr * 16 + 0) (0 + dr * 16) 16 (omega arith) (sums-exact sr dr i.sr_small i.dr_small))

      same : sr - dr ≡ 0 → HasValue (sums sr dr) false (16 * dist (ring + 0) (0 + 16 * k)) 16
      same h =
          let s : sr ≡ dr = omega arith in
          let n : dr ≤ 4080 = omega (arith, i.dr_small) in
          let z = sub-equal binary32 (float_of sr) (float_of dr) dr 1 (lit< tt)
          (subst (λ (n : ℕ). HasValue (float_of n) false dr 1) (sym s) (whole dr n)) (whole dr n) in
          subst (λ (x : Float). HasValue x false (16 * dist (ring + 0) (0 + 16 * k)) 16) (sym z) (refl, omega arith)

  pub computed : Computed (response_of sr dr ring cross) (credit sr) (debit dr ring cross)
  computed = record {
    near = response-near;
    exact = λ a b e. let k = cross-fifth sr dr ring cross a b e in response_exact k.0 a b k.1 e;
    level = λ e. let k = cross-fifth sr dr ring cross 0 0 (ap (λ (z : ℕ). z + 0) e) in response-level k.0 k.1 e;
  }
