-- The order of two responses with a slack of 1/256 is that of their exact values. Assumes nothing.
use Prim.Native.Nat.{◌+◌, ◌*◌, ◌≤◌}
use native.Mathlib.Nat.{lt_of_not-le}
use native.Mathlib.Omega.{arith}
use mathlib.Core.Path.{◌≡◌, refl, sym}
use mathlib.Core.Logic.{◌↔◌}
use mathlib.Core.Bool.{Bool, true, false}
use lib.Dec.{T, lit<, lit≤}
use lib.IntN.{ℤ}
use lib.Signed.{◌<ℤ◌, lt_z}
use lib.Ieee.{Float, binary32, add, lt}
use Rattle.lists.proofs.Tests.{to-T, from-T, and_none}
use Rattle.float32.specs.Value.{Within, plus_part, minus_part}
use Rattle.float32.proofs.Approx.{value-within, restate, add-within, lt-within, lt-asym}
use Rattle.accuracy.specs.Accurate.{Accurate}
use Rattle.accuracy.proofs.Integers.{less-parts}
use Rattle.accuracy.proofs.Judged.{ordered}
use Rattle.detect.specs.Peaks.{slack, beats}
use Rattle.agreement.proofs.Threshold.{less-is}

pub either : (a b : Bool) → (a ≡ true) ↔ (b ≡ true) → a ≡ b
either true b i = sym (i.0 refl)
either false true i = i.1 refl
either false false i = refl

-- ---- the slack of 1/256. Over the denominator 20480 = 5 * 4096 a fifth is 4096, the slack 80, the error of a response 20, and that of the
-- sum 5. a response of at most 6120 in size: what the sums of bytes give
pub record Modest (E : ℤ) : Type 0 where
  pub plus : plus_part E ≤ 30600
  pub minus : minus_part E ≤ 30600

near : (x : Float) (E : ℤ) → Accurate x E → Within x (4096 * plus_part E) (4096 * minus_part E) 20480 20
near x E a =
    restate x (1024 * plus_part E) (1024 * minus_part E) 5120 5 (4096 * plus_part E) (4096 * minus_part E) 20480 20 (lit< tt)
    (omega arith) (omega arith) a.near

is-slack : Within slack 80 0 20480 0
is-slack = value-within slack 80 0 20480 (record { is_finite = tt; equal = refl })

bar : (x : Float) (E : ℤ) → Modest E → Accurate x E
    → Within (add binary32 x slack) (4096 * plus_part E + 80) (4096 * minus_part E + 0) 20480 25
bar x E m a =
    add-within binary32 x slack (4096 * plus_part E) (4096 * minus_part E) 80 0 20480 20 0 13 5 (near x E a) is-slack
    (record {
      under = omega (arith, m.plus);
      over = omega (arith, m.minus);
      half = lit≤ tt;
      in-range = lit≤ tt;
      normal = lit≤ tt;
    })

module _ (x y : Float) (E F : ℤ) (m : Modest E) (a : Accurate x E) (b : Accurate y F) where
  larger : E <ℤ F → T (lt (add binary32 x slack) y)
  larger h =
      lt-within (add binary32 x slack) y (4096 * plus_part E + 80) (4096 * minus_part E + 0) (4096 * plus_part F)
      (4096 * minus_part F) 20480 25 20
      (lit< tt) (bar x E m a) (near y F b) (omega (arith, (less-parts E F).0 h))

  -- otherwise y is below the bar
  under : plus_part F + minus_part E ≤ plus_part E + minus_part F → T (lt y (add binary32 x slack))
  under h =
      lt-within y (add binary32 x slack) (4096 * plus_part F) (4096 * minus_part F) (4096 * plus_part E + 80)
      (4096 * minus_part E + 0) 20480 20 25
      (lit< tt) (near y F b) (bar x E m a) (omega arith)

  only : T (lt (add binary32 x slack) y) → E <ℤ F
  only l =
      (less-parts E F).1
      (lt_of_not-le (λ (h : plus_part F + minus_part E ≤ plus_part E + minus_part F).
      lt-asym (add binary32 x slack) y (bar x E m a).is_finite b.near.is_finite l (under h)))

  -- y is larger than x by more than 1/256 exactly where its exact value is larger
  pub larger-exactly : lt (add binary32 x slack) y ≡ lt_z E F
  larger-exactly = either _ _ (λ e. (less-is E F).1 (only (to-T e)), λ e. from-T _ (larger ((less-is E F).0 e)))

-- so a cell beats another by exact values exactly where its exact value is larger
pub beats-exactly : (x y : Float) (E F : ℤ) → Modest E → Accurate x E → Accurate y F → beats true x y ≡ lt_z E F
beats-exactly x y E F m a b = go (lt_z E F) refl
  where
    go : (t : Bool) → lt_z E F ≡ t → beats true x y ≡ t
    go true q = rw (from-T (lt x y) (ordered x y E F a b ((less-is E F).0 q)), larger-exactly x y E F m a b) q
    go false q = rw (larger-exactly x y E F m a b, q) (and_none (lt x y))
