-- Differences of natural numbers as integers: sums of them, their tests, and what is left where none is negative. Assumes nothing.
use mathlib.Core.Path.{◌≡◌, refl, sym, ap, ◌∙◌}
use Prim.Native.Nat.{ℕ, zero, suc, ◌+◌, ◌-◌, ◌≤◌, ◌<◌}
use native.Mathlib.Decide.{dec_lt}
use native.Mathlib.Omega.{arith}
use lib.Dec.{ltb, leb, eqb}
use lib.IntN.{pos, negsuc, nat_abs, sub_ℕ, ◌+ℤ◌, ◌-ℤ◌}
use lib.Signed.{lt_z, le_z}
use borrow.Author.Tests.{lt-ltb, le-ltb, le-leb, lt-leb, eq-eqb, ne_eqb}
use Rattle.float32.specs.Value.{dist}
use Rattle.published.specs.Rust.{as_usize, eq_z, clamp_z}

module _ (a b : ℕ) where
  pub sub_low : a < b → sub_ℕ a b ≡ negsuc (b - suc a)
  sub_low h = rw (lt-ltb a b h)

  pub sub-high : b ≤ a → sub_ℕ a b ≡ pos (a - b)
  sub-high h = rw (le-ltb a b h)

pub minus_is : (a b : ℕ) → pos a -ℤ pos b ≡ sub_ℕ a b
minus_is a zero = ap pos (omega arith) ∙ sym (sub-high a 0 (omega arith))
minus_is a (suc b) = refl

pub abs_is : (a b : ℕ) → nat_abs (sub_ℕ a b) ≡ dist a b
abs_is a b = elim (dec_lt a b) [
  | yes l ↦ rw (sub_low a b l) (omega arith)
  | no g ↦ rw (sub-high a b (omega arith)) (omega arith)
]

pub plus-is : (c a b : ℕ) → pos c +ℤ sub_ℕ a b ≡ sub_ℕ (c + a) b
plus-is c a b = elim (dec_lt a b) [
  | yes l ↦ rw (sub_low a b l) (rest l)
  | no g ↦ rw (sub-high a b (omega arith), sub-high (c + a) b (omega arith)) (ap pos (omega arith))
]
  where
    rest : a < b → sub_ℕ c (suc (b - suc a)) ≡ sub_ℕ (c + a) b
    rest l = elim (dec_lt (c + a) b) [
      | yes m ↦ rw (sub_low (c + a) b m, sub_low c (suc (b - suc a)) (omega arith)) (ap negsuc (omega arith))
      | no g ↦ rw (sub-high (c + a) b (omega arith), sub-high c (suc (b - suc a)) (omega arith)) (ap pos (omega arith))
    ]

-- ---- tests
pub below-zero : (a b : ℕ) → lt_z (sub_ℕ a b) (pos 0) ≡ ltb a b
below-zero a b = elim (dec_lt a b) [
  | yes l ↦ rw (sub_low a b l, lt-ltb a b l)
  | no g ↦ rw (sub-high a b (omega arith), le-ltb a b (omega arith)) (le-ltb (a - b) 0 (omega arith))
]

pub from_on : (c a b : ℕ) → le_z (pos c) (sub_ℕ a b) ≡ leb (c + b) a
from_on c a b = elim (dec_lt a b) [
  | yes l ↦ rw (sub_low a b l) (sym (lt-leb (c + b) a (omega arith)))
  | no g ↦ rw (sub-high a b (omega arith)) (elim (dec_lt a (c + b)) [
    | yes m ↦ rw (lt-leb c (a - b) (omega arith)) (sym (lt-leb (c + b) a m))
    | no k ↦ rw (le-leb c (a - b) (omega arith)) (sym (le-leb (c + b) a (omega arith)))
  ])
]

pub is_zero : (a b : ℕ) → eq_z (sub_ℕ a b) (pos 0) ≡ eqb a b
is_zero a b = elim (dec_lt a b) [
  | yes l ↦ rw (sub_low a b l) (sym (ne_eqb a b (λ e. let no : ⊥ = omega arith in no)))
  | no g ↦ rw (sub-high a b (omega arith)) (elim (dec_lt b a) [
    | yes m ↦ rw (lt-leb (a - b) 0 (omega arith)) (sym (ne_eqb a b (λ e. let no : ⊥ = omega arith in no)))
    | no k ↦ rw (le-leb (a - b) 0 (omega arith), le-leb 0 (a - b) (omega arith)) (sym (eq-eqb a b (omega arith)))
  ])
]

pub up-to : (a b p : ℕ) → le_z (sub_ℕ a b) (pos p) ≡ leb (a - b) p
up-to a b p = elim (dec_lt a b) [
  | yes l ↦ rw (sub_low a b l) (sym (le-leb (a - b) p (omega arith)))
  | no g ↦ rw (sub-high a b (omega arith))
]

-- a number of 0 up to n is not clamped
pub clamped : (n p : ℕ) → p < n → as_usize (clamp_z (pos p) (pos 0) (pos n -ℤ pos 1)) ≡ p
clamped n p l = rw (le-ltb p 0 (omega arith), le-ltb n 1 (omega arith), le-ltb (n - 1) p (omega arith))
