-- A running sum of floats that are not negative, against the exact sum: the relative error grows by one part in 2 ^ 24 - 2048 with each
-- addition, up to 2048 of them.
-- Numbers of units throughout (`Units`). Assumes nothing.
use Rattle.std.proofs.Common.{◌≡◌, ℕ, suc, ◌+◌, ◌*◌, ◌^◌, ◌<◌, ◌≤◌, false, List, [], ◌∷◌, length, refl, le_trans, lt_of_le_of_lt, add-zero}
use Rattle.std.proofs.Common.{le_of_lt, add_assoc, suc-mul, add-mul, mul-le-mul_left, mul-lt-mul_of_pos_right, zero-add, mul-suc, arith}
use Rattle.std.proofs.Common.{lit<, lit≤, pow_pos}
use lib.Ieee.{Float, binary32, low, add, mul}
use lib.Ieee.Exact.{HasValue}
use Rattle.lists.specs.Places.{All, sum_of}
use Rattle.float32.specs.Float32.{zero as zero32}
use Rattle.float32.proofs.Rounding.{HalfNear}
use Rattle.float32.proofs.Units.{Units, rounded, units-near, add-units, scale-units}

-- ---- x is A units, and |A - X| ≤ X c / 16775168
abbrev pub Near : ℕ → ℕ → ℕ → Type 0
Near A X c = (A * 16775168 ≤ X * 16775168 + X * c) × (X * 16775168 ≤ A * 16775168 + X * c)

pub record Nearly (x : Float) (X c : ℕ) : Type 0 where
  pub size : ℕ
  pub units : Units binary32 x size
  pub near : Near size X c

-- ---- one rounding
near-zero : (A X : ℕ) → A ≡ X → Near A X 0
near-zero A X e = omega arith

looser : (A X c d : ℕ) → c ≤ d → Near A X c → Near A X d
looser A X c d h n = let k : X * c ≤ X * d = mul-le-mul_left X h in omega arith

rounded-near : (g A X c : ℕ) → c < 2048 → HalfNear (g * 8388608) (A * 8388608) A → Near A X c → Near g X (suc c)
rounded-near g A X c h r n =
    let k : X * c ≤ X * 2048 = mul-le-mul_left X (le_of_lt h) in
    let s = mul-suc X c in
    omega arith

sum_near : (A B X Y c : ℕ) → Near A X c → Near B Y c → Near (A + B) (X + Y) c
sum_near A B X Y c n m = omega (arith, add-mul X Y c)

-- ---- no overflow: an exact value up to 2 ^ 60
abbrev Modest : ℕ → Type 0
Modest X = X ≤ 2 ^ 60 * 2 ^ low binary32

small_of : (A X c L : ℕ) → 0 < L → c ≤ 2048 → Near A X c → X ≤ 2 ^ 60 * L → A < 2 ^ 127 * L
small_of A X c L K h n m =
    let k : X * c ≤ X * 2048 = mul-le-mul_left X h in
    let a : A ≤ 2 * X = omega arith in
    let b : A ≤ 2 ^ 61 * L = omega arith in
    lt_of_le_of_lt b (mul-lt-mul_of_pos_right (lit< tt) K)

below : (c : ℕ) → c < 2048 → c ≤ 2048
below c h = omega arith

add-nearly : (x y : Float) (X Y c d : ℕ) → d ≤ c → c < 2048 → Modest (X + Y) → Nearly x X c → Nearly y Y d
    → Nearly (add binary32 x y) (X + Y) (suc c)
add-nearly x y X Y c d l h m v w =
    let n = sum_near v.size w.size X Y c v.near (looser w.size Y d c l w.near) in
    record {
      size = rounded binary32 (v.size + w.size);
      units = add-units binary32 x y v.size w.size v.units w.units
          (small_of (v.size + w.size) (X + Y) c (2 ^ low binary32) (pow_pos (low binary32)) (below c h) n m);
      near = rounded-near (rounded binary32 (v.size + w.size)) (v.size + w.size) (X + Y) c h
          (units-near binary32 (v.size + w.size)) n;
    }

pub exactly : (x : Float) (X : ℕ) → Units binary32 x X → Nearly x X 0
exactly x X v = record { size = X; units = v; near = near-zero X X refl }

-- a whole number times an exact value
pub scale-nearly : (x y : Float) (k b : ℕ) → HasValue x false k 1 → Units binary32 y b → Modest (k * b)
    → Nearly (mul binary32 x y) (k * b) 1
scale-nearly x y k b v w m =
    let n = near-zero (k * b) (k * b) refl in
    record {
      size = rounded binary32 (k * b);
      units = scale-units binary32 x y k b v w (small_of (k * b) (k * b) 0 (2 ^ low binary32) (pow_pos (low binary32)) (lit≤ tt) n m);
      near = rounded-near (rounded binary32 (k * b)) (k * b) (k * b) 0 (lit< tt) (units-near binary32 (k * b)) n;
    }

-- ---- the terms of a list, one after the other
module _ {A : Type 0} (t : A → Float) where
  unfoldable pub summed : Float → List A → Float
  summed a [] = a
  summed a (p ∷ ps) = summed (add binary32 a (t p)) ps

  module _ (X : A → ℕ) (d H B : ℕ) (top : B ≤ 2 ^ 60 * 2 ^ low binary32) where
    summed-on : (ps : List A) → All (λ p. Nearly (t p) (X p) d × (X p ≤ H)) ps → (a : Float) (S c : ℕ) → Nearly a S c → d ≤ c
        → c + length ps ≤ 2048 → S + length ps * H ≤ B
        → Nearly (summed a ps) (S + sum_of X ps) (c + length ps)
    unfolding summed
    summed-on [] h a S c v l n b = rw (add-zero S, add-zero c) v
    summed-on (p ∷ ps) h a S c v l n b =
        let k : c + suc (length ps) ≡ suc c + length ps = omega arith in
        let m : S + X p + length ps * H ≤ B = omega (arith, h.0.1, suc-mul (length ps) H) in
        let s = add-nearly a (t p) S (X p) c d l (omega arith) (le_trans (omega arith) top) v h.0.0 in
        rw (← add_assoc S (X p) (sum_of X ps), k)
        (summed-on ps h.1 (add binary32 a (t p)) (S + X p) (suc c) s (omega arith) (omega arith) m)

  pub summed-nearly : (X : A → ℕ) (d H : ℕ) (ps : List A) → d + length ps ≤ 2048 → length ps * H ≤ 2 ^ 60 * 2 ^ low binary32
      → All (λ p. Nearly (t p) (X p) d × (X p ≤ H)) ps
      → Nearly (summed zero32 ps) (sum_of X ps) (d + length ps)
  summed-nearly X d H ps n b h =
      let none : Nearly zero32 0 d = record { size = 0; units = (refl, refl); near = omega arith } in
      rw zero-add at (summed-on X d H (length ps * H) b ps h zero32 0 d none (omega arith) n (omega arith))
