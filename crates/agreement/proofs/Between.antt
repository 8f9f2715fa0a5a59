-- A response is above the threshold that lies between two fifths exactly where its exact value is above the threshold given. Assumes
-- nothing.
use Prim.Native.Nat.{ℕ, ◌+◌, ◌*◌, ◌/◌, ◌≤◌, ◌<◌}
use native.Mathlib.Nat.{lt_of_not-le, div-lt_iff_lt-mul, mul-le-mul_right}
use native.Mathlib.Omega.{arith}
use mathlib.Core.Path.{◌≡◌, refl, sym, ap, ◌∙◌}
use mathlib.Core.Logic.{◌↔◌}
use mathlib.Core.Bool.{Bool, true, false, not, false≢true}
use lib.Dec.{T, ltb, lit<, lit≤}
use lib.IntN.{ℤ, pos, negsuc}
use lib.Signed.{lt_z}
use lib.Ieee.{Float, nan, inf, fin, binary32, up, down, le, lt}
use lib.Ieee.Fits.{down_pos}
use borrow.Author.Tests.{lt-ltb, le-ltb, ltb-true, not-true}
use Rattle.lists.proofs.Tests.{to-T, from-T, is_false}
use Rattle.float32.specs.Float32.{float_of}
use Rattle.float32.specs.Value.{Within, plus_part, minus_part}
use Rattle.float32.proofs.Approx.{value-within, restate, div-within, lt-within, lt-asym}
use Rattle.float32.proofs.Approx as approx
use Rattle.float32.proofs.Classes.{plus}
use Rattle.float32.proofs.Values.{of-HasValue, of_int-value, le-value, le_not_lt}
use Rattle.accuracy.specs.Accurate.{Accurate}
use Rattle.accuracy.proofs.Integers.{less-parts}
use Rattle.detect.specs.Fifths.{above_all, fifths_under, between_fifths}
use Rattle.detect.specs.Exact.{fifths_above}
use Rattle.detect.proofs.Thresholds.{fifths-few}
use Rattle.agreement.proofs.Threshold.{less-is}
use Rattle.agreement.proofs.Slack.{either}

-- ---- whole numbers: E fifths are above t where they are more than the fifths in t. No exact value is above 10,200
past_all : (m : ℕ) (e : ℤ) → le above_all (fin false m e) ≡ true → 2041 * down e ≤ m * up e
past_all m e h =
    let k = (le-value above_all (fin false m e) (2041 * down e) 0 (m * up e) 0 (down e) (down_pos e)
    (record { is_finite = tt; equal = omega arith })
    (approx.own (fin false m e) tt)).0 (to-T h) in
    omega arith

-- with t = p / d, where 5 t is cut off
divided : (k p d : ℕ) → 0 < d → ltb (5 * p) (k * d) ≡ ltb (5 * p / d) k
divided k p d D =
    let i = div-lt_iff_lt-mul {k = d} {x = 5 * p} {y = k} D in
    either _ _ (λ e. lt-ltb _ _ (i.1 (ltb-true _ _ e)), λ e. lt-ltb _ _ (i.0 (ltb-true _ _ e)))

above-fifths : (t : Float) (k : ℕ) → T (plus t) → k ≤ 10200 → fifths_above t (pos k) ≡ ltb (fifths_under t) k
unfolding fifths_above fifths_under le
above-fifths nan k p h = absurd p
above-fifths (inf true) k p h = absurd p
above-fifths (inf false) k p h = sym (le-ltb 10205 k (omega arith))
above-fifths (fin true m e) k p h = absurd p
above-fifths (fin false m e) k p h = go (le above_all (fin false m e)) refl
  where
    go : (b : Bool) → le above_all (fin false m e) ≡ b → ltb (5 * (m * up e)) (k * down e) ≡ ltb (fifths_under (fin false m e)) k
    go true q =
        rw q
        (le-ltb (5 * (m * up e)) (k * down e) (omega (arith, mul-le-mul_right (down e) h, past_all m e q))
        ∙ sym (le-ltb 10205 k (omega arith)))
    go false q = rw q (divided k (m * up e) (down e) (down_pos e))

-- ---- floats: over the denominator 5,120 a fifth is 1,024, the error of a response at most 5 and that of the threshold at most 1
module _ (t x : Float) (E : ℤ) (p : T (plus t)) (a : Accurate x E) where
  abbrev n : ℕ
  n = fifths_under t

  bar : Within (between_fifths t) (512 * (2 * n + 1)) 0 5120 1
  unfolding between_fifths
  bar =
      div-within binary32 (float_of (2 * n + 1)) (fin false 5 (pos 1)) 10 (512 * (2 * n + 1)) 0 512 0 11 1 (lit< tt) (refl, refl)
      (restate (float_of (2 * n + 1)) (2 * n + 1) 0 1 0 (512 * (2 * n + 1)) 0 512 0 (lit< tt) (omega arith) (omega arith)
      (value-within (float_of (2 * n + 1)) (2 * n + 1) 0 1
      (of-HasValue (float_of (2 * n + 1)) false (2 * n + 1) 1 (of_int-value binary32 (2 * n + 1) (omega (arith, fifths-few t p))))))
      (record {
        under = omega (arith, fifths-few t p);
        over = omega arith;
        half = lit≤ tt;
        in-range = lit≤ tt;
        normal = lit≤ tt;
      })

  -- above where E is more than n, and below where it is not
  over : n + minus_part E < plus_part E → T (lt (between_fifths t) x)
  over h =
      lt-within (between_fifths t) x (512 * (2 * n + 1)) 0 (1024 * plus_part E) (1024 * minus_part E) 5120 1 5 (lit< tt) bar
      a.near (omega arith)

  under : plus_part E ≤ n + minus_part E → T (lt x (between_fifths t))
  under h =
      lt-within x (between_fifths t) (1024 * plus_part E) (1024 * minus_part E) (512 * (2 * n + 1)) 0 5120 5 1 (lit< tt)
      a.near bar (omega arith)

  above-bar : not (le x (between_fifths t)) ≡ lt_z (pos n) E
  above-bar = either _ _ (
    λ e. (less-is (pos n) E).1 ((less-parts (pos n) E).1
        (lt_of_not-le (λ (h : plus_part E + 0 ≤ n + minus_part E). low e (under (omega arith))))),
    λ e. ap not (is_false (le x (between_fifths t))
        (λ l. at_most.0 (to-T l) (over (omega (arith, (less-parts (pos n) E).0 ((less-is (pos n) E).0 e)))))),
  )
    where
      at_most : T (le x (between_fifths t)) ↔ (T (lt (between_fifths t) x) → ⊥)
      at_most = le_not_lt x (between_fifths t) a.near.is_finite bar.is_finite

      low : not (le x (between_fifths t)) ≡ true → T (lt x (between_fifths t)) → ⊥
      low e l =
          false≢true
          (sym (not-true (le x (between_fifths t)) e)
          ∙ from-T _ (at_most.1 (λ g. lt-asym x (between_fifths t) a.near.is_finite bar.is_finite l g)))

-- a response is above the moved threshold exactly where its exact value is above the threshold
pub above-exactly : (t x : Float) (E : ℤ) → T (plus t) → plus_part E ≤ 10200 → Accurate x E
    → not (le x (between_fifths t)) ≡ fifths_above t E
unfolding fifths_above
above-exactly t x (pos k) p h a = above-bar t x (pos k) p a ∙ sym (above-fifths t k p h)
above-exactly t x (negsuc k) p h a = above-bar t x (negsuc k) p a
