-- Both tables are rings: one test that computes over a table's places, and one law that turns it into the record. Assumes nothing.
use mathlib.Core.Path.{◌≡◌, refl, ap, ◌∙◌}
use mathlib.Core.Logic.{⊎_elim}
use mathlib.Core.Bool.{Bool, true, false, not, cond, ◌&&◌, ◌||◌, false≢true}
use Prim.Native.Nat.{ℕ, zero, suc, ◌*◌, ◌<◌}
use native.Mathlib.Nat.{eq-or-lt_of_le, le_of_suc-le-suc, not-suc-le-zero}
use lib.Dec.{eqb, ltb, leb}
use lib.ListN.{length}
use borrow.Author.Tests.{eqb-true, eq-eqb, ltb-true, leb-true}
use Rattle.lists.proofs.Tests.{and_parts}
use Rattle.ring.specs.Ring.{Ring, ring5, ring10, ring_of, dx, dy, steps, IsRing}

-- ---- a test at each number below n
abbrev every : ℕ → (ℕ → Bool) → Bool
every zero f = true
every (suc n) f = f n && every n f

every-at : (n : ℕ) (f : ℕ → Bool) → every n f ≡ true → (k : ℕ) → k < n → f k ≡ true
every-at zero f e k h = absurd (not-suc-le-zero h)
every-at (suc n) f e k h =
    let q = and_parts (f n) (every n f) e in
    ⊎_elim (λ (i : k ≡ n). ap f i ∙ q.0) (λ (l : k < n). every-at n f q.1 k l) (eq-or-lt_of_le (le_of_suc-le-suc h))

-- ---- the test of a table
abbrev same : Ring → ℕ → ℕ → Bool
same t j k = eqb (dx t j) (dx t k) && eqb (dy t j) (dy t k)

abbrev apart : Ring → ℕ → Bool
apart t j = every 16 (λ k. eqb j k || not (same t j k))

abbrev in_square : Ring → ℕ → Bool
in_square t k = leb (dx t k) (2 * t.radius) && leb (dy t k) (2 * t.radius)

abbrev lies : Ring → ℕ → Bool
lies t k = apart t k && (ltb 1 (steps t k) && in_square t k)

abbrev ring_test : Ring → Bool
ring_test t = eqb (length t.places) 16 && every 16 (lies t)

equal-or-other : (a b : Bool) → (a || not b) ≡ true → b ≡ true → a ≡ true
equal-or-other true b e h = refl
equal-or-other false true e h = absurd (false≢true e)
equal-or-other false false e h = h

module _ (t : Ring) (e : ring_test t ≡ true) where
  parts : (eqb (length t.places) 16 ≡ true) × (every 16 (lies t) ≡ true)
  parts = and_parts (eqb (length t.places) 16) (every 16 (lies t)) e

  place : (k : ℕ) → k < 16 → (apart t k ≡ true) × ((ltb 1 (steps t k) && in_square t k) ≡ true)
  place k h = and_parts (apart t k) (ltb 1 (steps t k) && in_square t k) (every-at 16 (lies t) parts.1 k h)

  off : (k : ℕ) → k < 16 → (ltb 1 (steps t k) ≡ true) × (in_square t k ≡ true)
  off k h = and_parts (ltb 1 (steps t k)) (in_square t k) (place k h).1

  square : (k : ℕ) → k < 16 → (leb (dx t k) (2 * t.radius) ≡ true) × (leb (dy t k) (2 * t.radius) ≡ true)
  square k h = and_parts (leb (dx t k) (2 * t.radius)) (leb (dy t k) (2 * t.radius)) (off k h).1

  tested : IsRing t
  tested =
      record {
        sixteen = eqb-true _ _ parts.0;
        different =
            λ j k hj hk x y.
            eqb-true j k
            (equal-or-other (eqb j k) (same t j k) (every-at 16 (λ i. eqb j i || not (same t j i)) (place j hj).0 k hk)
            (rw (eq-eqb _ _ x, eq-eqb _ _ y)));
        off_cross = λ k h. ltb-true _ _ (off k h).0;
        across = λ k h. leb-true _ _ (square k h).0;
        down = λ k h. leb-true _ _ (square k h).1;
      }

-- ---- the two tables
pub ring5-is : IsRing ring5
unfolding ring5
ring5-is = tested ring5 refl

pub ring10-is : IsRing ring10
unfolding ring10
ring10-is = tested ring10 refl

either : (b : Bool) → IsRing (cond b ring10 ring5)
either true = ring10-is
either false = ring5-is

-- whichever a radius selects
pub ring_of-is : (n : ℕ) → IsRing (ring_of n)
unfolding ring_of
ring_of-is n = either (eqb n 10)
