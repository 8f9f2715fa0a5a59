-- The one pass over the pairs: what is held stays small, the DR and the sum after each pair are those of the pairs passed, and after the
-- eighth all three sums are the paper's. Assumes nothing.
use Prim.Native.Nat.{ℕ, zero, suc, ◌+◌, ◌*◌, ◌-◌, ◌<◌, ◌≤◌, max}
use native.Mathlib.Nat.{add-zero}
use native.Mathlib.Decide.{dec_lt}
use native.Mathlib.Numerals.{add-one}
use native.Mathlib.Omega.{arith}
use mathlib.Core.Path.{◌≡◌, refl, sym, ap, ◌∙◌, subst}
use mathlib.Core.List.{List, [], ◌∷◌}
use mathlib.Core.Bool.{true, false}
use borrow.Author.Tests.{lt-ltb, le-ltb, ltb-true, ltb-false}
use lib.IntN.{pos}
use lib.Signed.{lt_z}
use mir.Syntax.{w16}
use mir.Val.{to_z}
use mir.ValLaws.{to_z_pos}
use lib.ListN.{get_or, set}
use Rattle.float32.specs.Value.{dist, total}
use Rattle.response.specs.declared.Held.{Held}
use Rattle.response.specs.Response.{sr_of, ring_sum_of}
use Rattle.response.specs.OnePass.{no_pairs, with_pair, passed_after}
use Rattle.response.specs.Internal.{Bytes, SumsBounded, RingSumsOf}
use Rattle.response.proofs.Filling.{set_all}

-- ---- two numbers below 2^15, compared as i16
module _ (a b : ℕ) (p : a < 32768) (q : b < 32768) where
  pub most-second : lt_z (to_z w16 a) (to_z w16 b) ≡ true → b ≡ max a b
  most-second l =
      let t : lt_z (pos a) (pos b) ≡ true = rw (to_z_pos w16 a (omega arith), to_z_pos w16 b (omega arith)) at l in
      omega (arith, ltb-true a b t)

  pub most-first : lt_z (to_z w16 a) (to_z w16 b) ≡ false → a ≡ max a b
  most-first l =
      let t : lt_z (pos a) (pos b) ≡ false = rw (to_z_pos w16 a (omega arith), to_z_pos w16 b (omega arith)) at l in
      omega (arith, ltb-false a b t)

-- ---- small
pub small-none : SumsBounded 0 no_pairs
small-none = record { sr_small = omega arith; dr_small = omega arith; sum_small = omega arith; first_small = none }
  where
    none : (i : ℕ) → get_or (0 ∷ 0 ∷ 0 ∷ 0 ∷ []) i 0 ≤ 510
    none zero = omega arith
    none (suc zero) = omega arith
    none (suc (suc zero)) = omega arith
    none (suc (suc (suc zero))) = omega arith
    none (suc (suc (suc (suc i)))) = omega arith

pub small-next : (k a b : ℕ) (h : Held) → a < 256 → b < 256 → SumsBounded k h → SumsBounded (k + 1) (with_pair k a b h)
unfolding with_pair
small-next k a b h p q s =
    elim (dec_lt k 4) [
      | yes l ↦
          rw (lt-ltb k 4 l)
          (record {
            sr_small = omega (arith, s.sr_small);
            dr_small = omega (arith, s.dr_small);
            sum_small = omega (arith, s.sum_small);
            first_small = λ i. set_all (λ n. n ≤ 510) h.first k (a + b) i s.first_small (omega arith);
          })
      | no g ↦
          let late : 4 ≤ k = omega arith in
          rw (le-ltb k 4 late)
          (record {
            sr_small = omega (arith, s.sr_small, s.first_small (k - 4));
            dr_small = omega (arith, s.dr_small);
            sum_small = omega (arith, s.sum_small);
            first_small = s.first_small;
          })
    ]

-- ---- one pair more, as the code has it: before the fifth, and from there on
pub stepped : (k a b : ℕ) (h r : Held) → a < 256 → b < 256 → SumsBounded k h → r ≡ with_pair k a b h
    → (r ≡ with_pair k a b h) × SumsBounded (k + 1) r
stepped k a b h r p q s e = (e, subst (SumsBounded (k + 1)) (sym e) (small-next k a b h p q s))

module _ (k a b : ℕ) (h : Held) (q d : ℕ) (sum_is : q ≡ a + b) (gap_is : d ≡ dist a b) where
  pub early : k < 4 → record { sr = h.sr; dr = h.dr + d; sum = h.sum + q; first = set h.first k q } ≡ with_pair k a b h
  unfolding with_pair
  early l = rw (lt-ltb k 4 l, sum_is, gap_is, add-zero h.sr)

  pub late : 4 ≤ k → (t : ℕ) → t ≡ dist (get_or h.first (k - 4) 0) q
      → record { sr = h.sr + t; dr = h.dr + d; sum = h.sum + q; first = h.first } ≡ with_pair k a b h
  unfolding with_pair
  late l t e = rw (le-ltb k 4 l, e, sum_is, gap_is)

pub sr-fits : (k sr x q t : ℕ) → k < 8 → sr ≤ 510 * k → x ≤ 510 → q ≤ 510 → t ≡ dist x q → sr + t < 65536
sr-fits k sr x q t l s p o e = omega arith

-- ---- in a loop over the pairs
pub passed_none : (s : List ℕ) → no_pairs ≡ passed_after s 0
unfolding passed_after
passed_none s = refl

pub passed-next : (s : List ℕ) (k : ℕ) (h r : Held) → h ≡ passed_after s k → r ≡ with_pair k (get_or s k 0) (get_or s (k + 8) 0) h
    → r ≡ passed_after s (k + 1)
unfolding passed_after
passed-next s k h r e f = rw (add-one k) (f ∙ ap (with_pair k (get_or s k 0) (get_or s (k + 8) 0)) e)

pub passed-end : (s : List ℕ) (k n : ℕ) (h : Held) → h ≡ passed_after s k → k ≡ n → h ≡ passed_after s n
passed-end s k n h e l = e ∙ ap (passed_after s) l

-- what is held of bytes is small
pub passed-small : (s : List ℕ) → Bytes s → (n : ℕ) → SumsBounded n (passed_after s n)
unfolding passed_after
passed-small s b zero = small-none
passed-small s b (suc n) =
    subst (λ (k : ℕ). SumsBounded k (passed_after s (suc n))) (add-one n)
    (small-next n (get_or s n 0) (get_or s (n + 8) 0) (passed_after s n) (b n) (b (n + 8)) (passed-small s b n))

-- ---- after each pair
pub passed-dr : (s : List ℕ) (n : ℕ) → (passed_after s n).dr ≡ total (λ k. dist (get_or s k 0) (get_or s (k + 8) 0)) n
unfolding passed_after total
passed-dr s zero = refl
passed-dr s (suc n) = ap (λ (d : ℕ). d + dist (get_or s n 0) (get_or s (n + 8) 0)) (passed-dr s n)

pub passed-sum : (s : List ℕ) (n : ℕ) → (passed_after s n).sum ≡ total (λ k. get_or s k 0 + get_or s (k + 8) 0) n
unfolding passed_after total
passed-sum s zero = refl
passed-sum s (suc n) = ap (λ (d : ℕ). d + (get_or s n 0 + get_or s (n + 8) 0)) (passed-sum s n)

-- ---- after the eighth
passed-sr : (s : List ℕ) → (passed_after s 8).sr ≡ sr_of s
unfolding passed_after total
passed-sr s = refl

paired : (s : List ℕ) → total (λ k. get_or s k 0 + get_or s (k + 8) 0) 8 ≡ ring_sum_of s
unfolding total
paired s = omega arith

pub passed-all : (s : List ℕ) → RingSumsOf s (passed_after s 8).sr (passed_after s 8).dr (passed_after s 8).sum
passed-all s = record { sr_is = passed-sr s; dr_is = passed-dr s 8; sum_is = passed-sum s 8 ∙ paired s }
