-- The sums of a cell's ranges, as the loops over its samples build them. Assumes nothing.
use mathlib.Core.Path.{◌≡◌, refl, ap, ◌∙◌}
use mathlib.Core.List.{List}
use Prim.Native.Nat.{ℕ, ◌+◌, ◌*◌, ◌≤◌}
use native.Mathlib.Numerals.{add-one}
use native.Mathlib.Omega.{arith}
use lib.ListN.{get_or}
use Rattle.float32.specs.Value.{total}
use Rattle.response_limits.specs.Limits.{plus, least_dist, range_at}

-- so many terms of a sum are added up, each of them at most m
pub record Added (f : ℕ → ℕ) (m n sum : ℕ) : Type 0 where
  pub sum_is : sum ≡ total f n
  pub sum_small : sum ≤ m * n

module _ (f : ℕ → ℕ) (m : ℕ) where
  pub added_none : Added f m 0 0
  unfolding total
  added_none = record { sum_is = refl; sum_small = omega arith }

  pub added_next : (n sum v : ℕ) → Added f m n sum → v ≡ f n → v ≤ m → Added f m (n + 1) (sum + v)
  unfolding total
  added_next n sum v a e l =
      record { sum_is = rw (add-one n) (omega (arith, a.sum_is)); sum_small = omega (arith, a.sum_small, mul_next) }
    where
      mul_next : m * (n + 1) ≡ m * n + m
      mul_next = omega arith

  pub added-all : (n k sum : ℕ) → Added f m k sum → k ≡ n → (sum ≡ total f n) × (sum ≤ m * n)
  added-all n k sum a e = (a.sum_is ∙ ap (total f) e, rw (← e) a.sum_small)

-- ---- the terms
module _ (p q : List ℕ) where
  abbrev pub sr_term : ℕ → ℕ
  sr_term k =
      least_dist (plus (range_at p q k) (range_at p q (k + 8))) (plus (range_at p q (k + 4)) (range_at p q (k + 12)))

  abbrev pub dr_term : ℕ → ℕ
  dr_term k = least_dist (range_at p q k) (range_at p q (k + 8))

  pub sr-term : (k a b c d v : ℕ) → a ≡ get_or p k 0 + get_or p (k + 8) 0 → b ≡ get_or p (k + 4) 0 + get_or p (k + 12) 0
      → c ≡ get_or q k 0 + get_or q (k + 8) 0 → d ≡ get_or q (k + 4) 0 + get_or q (k + 12) 0 → a ≤ 510 → b ≤ 510
      → v ≡ least_dist (record { low = a; high = c }) (record { low = b; high = d }) → (v ≡ sr_term k) × (v ≤ 510)
  sr-term k a b c d v ea eb ec ed la lb e = (rw (e, ea, eb, ec, ed), omega arith)

-- the sum of sixteen samples, by pairs
abbrev pub pair_at : List ℕ → ℕ → ℕ
pair_at p k = get_or p k 0 + get_or p (k + 8) 0

pub paired : (p : List ℕ) → total (pair_at p) 8 ≡ total (λ k. get_or p k 0) 16
unfolding total
paired p = omega arith
