-- Two positions at multiples of 1/64 that are near each other: their columns differ by at most the radius, and so do their rows. The
-- squares are rounded, and so is their sum, by at most half a unit in the last of 24 digits: too little to hide a 64th. Assumes nothing.
use Prim.Native.Nat.{ℕ, suc, ◌+◌, ◌-◌, ◌*◌, ◌^◌, ◌≤◌, ◌<◌}
use native.Mathlib.Nat.{le_trans, mul_assoc, mul-le-mul, mul-le-mul_right, le_of_mul-le-mul_right, eq-zero-or-pos}
use native.Mathlib.Omega.{arith}
use mathlib.Core.Path.{◌≡◌, refl, sym, ap, ◌∙◌, subst}
use mathlib.Core.Logic.{⊎_elim}
use mathlib.Core.Bool.{Bool, true, false}
use lib.Dec.{lit<, lit≤}
use lib.Pow.{pow_pos}
use lib.Ieee.{Float, binary32, low, unlike, round, sub}
use lib.Ieee.Exact.{HasValue}
use lib.Ieee.Scale.{round_same}
use Rattle.lists.proofs.Tests.{to-T}
use Rattle.float32.specs.Value.{IsValue, dist}
use Rattle.float32.proofs.Poly.{poly}
use Rattle.float32.proofs.Values.{sized, mul-round}
use Rattle.float32.proofs.Units.{Units, BelowOverflow, rounded, units-near, round-units, add-units}
use Rattle.float32.proofs.Approx.{sub-exact}
use Rattle.float32.proofs.Bounds.{value-le}
use Rattle.merge_grid.specs.declared.Position.{Position}
use Rattle.merge_grid.specs.Grid.{squared, near}
use Rattle.merge_alike.proofs.Multiples.{Sixtyfourths}

-- ---- the square of a / 64, in units of 2 ^ -149: 1 / 4,096 is U of them
abbrev U : ℕ
U = 2 ^ 137

-- the square of the largest coordinate in these, and so of every coordinate and radius
abbrev most : ℕ
most = 68719476736

like : (s : Bool) → unlike s s ≡ false
like true = refl
like false = refl

square-most : (a : ℕ) → a ≤ 262144 → a * a ≤ most
square-most a h = mul-le-mul h h

-- far below overflow
small_units : (n : ℕ) → n ≤ 4 * most → BelowOverflow binary32 (n * U)
small_units n h = le_trans (over n U (pow_pos 137) h) (lit≤ tt)
  where
    over : (n U : ℕ) → 0 < U → n ≤ 4 * most → suc (n * U) ≤ (4 * most + 1) * U
    over n U K h = let k : n * U ≤ 4 * most * U = mul-le-mul_right U h in omega arith

square-units : (x : Float) (a : ℕ) → a ≤ 262144 → (s : Bool) → HasValue x s a 64 → Units binary32 (squared x) (rounded binary32 (a * a * U))
square-units x a h s v =
    subst (λ (z : Float). Units binary32 z (rounded binary32 (a * a * U)))
    (sym (mul-round binary32 x x s s a 64 a 64 (lit< tt) (lit< tt) v v ∙ ap (λ (z : Bool). round binary32 z (a * a) 4096) (like s)
    ∙ round_same binary32 false (a * a) 4096 (a * a * U) (2 ^ low binary32) (lit< tt) (pow_pos 149) (sym (mul_assoc (a * a) U 4096))))
    (round-units binary32 (a * a * U) (small_units (a * a) (le_trans (square-most a h) (lit≤ tt))))

-- ---- from the rounded squares to a side

-- S is rounded to A, which with B is rounded to C; Q is rounded to D
linear : (S A B C D Q : ℕ) → S * 8388608 * 2 ≤ A * 8388608 * 2 + S → (A + B) * 8388608 * 2 ≤ C * 8388608 * 2 + (A + B) → C ≤ D
    → D * 8388608 * 2 ≤ Q * 8388608 * 2 + Q → S * 281474943156225 ≤ Q * 281474993487872
linear S A B C D Q h k l m = omega arith

side-le : (a R : ℕ) → R ≤ 262144 → a * a * 281474943156225 ≤ R * R * 281474993487872 → a ≤ R
side-le a R h k = ⊎_elim (λ (z : a - R ≡ 0). omega arith) (λ (z : 0 < a - R). absurd (far (omega arith))) (eq-zero-or-pos (a - R))
  where
    far : R + 1 ≤ a → ⊥
    far l =
        let p : (R + 1) * (R + 1) ≤ a * a = mul-le-mul l l in
        let q : R * R ≤ 262144 * R = mul-le-mul_right R h in
        let p' = simp poly at p in
        omega arith

-- a side whose square is rounded to A, which with some B is not rounded above the radius squared
side-near : (a R B : ℕ) → R ≤ 262144 → rounded binary32 (rounded binary32 (a * a * U) + B) ≤ rounded binary32 (R * R * U) → a ≤ R
side-near a R B h l =
    let A = rounded binary32 (a * a * U) in
    side-le a R h
    (le_of_mul-le-mul_right {k = U}
    (turned (a * a) (R * R) U (linear (a * a * U) A B (rounded binary32 (A + B)) (rounded binary32 (R * R * U)) (R * R * U)
    (units-near binary32 (a * a * U)).1 (units-near binary32 (A + B)).1 l (units-near binary32 (R * R * U)).0))
    (pow_pos 137))
  where
    turned : (n m U : ℕ) → n * U * 281474943156225 ≤ m * U * 281474993487872 → n * 281474943156225 * U ≤ m * 281474993487872 * U
    turned n m U h = let h' = simp poly at h in simp poly (omega arith)

-- ---- the difference of two coordinates
module _ (x y : Float) (u : Sixtyfourths x) (v : Sixtyfourths y) where
  abbrev pub apart : ℕ
  apart = dist u.count v.count

  apart-few : apart ≤ 262144
  apart-few = omega (arith, u.few, v.few)

  gap-square : Units binary32 (squared (sub binary32 x y)) (rounded binary32 (apart * apart * U))
  gap-square =
      let k = u.count in
      let l = v.count in
      let exact = sub-exact binary32 x y k 0 l 0 6 u.value v.value
      (record { under = omega (arith, u.few); over = omega (arith, v.few); fine = omega arith }) in
      let s = sized (sub binary32 x y) (k + 0) (0 + l) 64 exact in
      square-units (sub binary32 x y) apart apart-few s.sign
      (subst (λ (n : ℕ). HasValue (sub binary32 x y) s.sign n 64) (same k l) s.value)
    where
      same : (a b : ℕ) → dist (a + 0) (0 + b) ≡ dist a b
      same a b = omega arith

  gap-most : rounded binary32 (apart * apart * U) ≤ 2 * most * U
  gap-most =
      over (apart * apart) (rounded binary32 (apart * apart * U)) U (square-most apart apart-few)
      (units-near binary32 (apart * apart * U)).0
    where
      over : (n g U : ℕ) → n ≤ most → g * 8388608 * 2 ≤ n * U * 8388608 * 2 + n * U → g ≤ 2 * most * U
      over n g U h k = let m : n * U ≤ most * U = mul-le-mul_right U h in omega arith

-- ---- two positions that are near
module _ (r : Float) (R : ℕ) (small : R ≤ 262144) (v : IsValue r R 0 64) (p q : Position)
    (px : Sixtyfourths p.x) (qx : Sixtyfourths q.x) (py : Sixtyfourths p.y) (qy : Sixtyfourths q.y) where
  abbrev across : ℕ
  across = apart p.x q.x px qx

  abbrev down : ℕ
  down = apart p.y q.y py qy

  abbrev A : ℕ
  A = rounded binary32 (across * across * U)

  abbrev B : ℕ
  B = rounded binary32 (down * down * U)

  both_small : BelowOverflow binary32 (A + B)
  both_small = le_trans (over A B U (gap-most p.x q.x px qx) (gap-most p.y q.y py qy) (pow_pos 137)) (lit≤ tt)
    where
      over : (a b U : ℕ) → a ≤ 2 * most * U → b ≤ 2 * most * U → 0 < U → suc (a + b) ≤ (4 * most + 1) * U
      over a b U h m n = omega arith

  pub sides-near : near (squared r) p q ≡ true → (across ≤ R) × (down ≤ R)
  unfolding near
  sides-near e =
      let s = sized r R 0 64 v in
      let square = square-units r R small s.sign (subst (λ (n : ℕ). HasValue r s.sign n 64) (whole R) s.value) in
      let sum = add-units binary32 (squared (sub binary32 p.x q.x)) (squared (sub binary32 p.y q.y)) A B
      (gap-square p.x q.x px qx) (gap-square p.y q.y py qy) both_small in
      let h = value-le _ (squared r) (rounded binary32 (A + B)) (rounded binary32 (R * R * U)) (2 ^ low binary32)
      (pow_pos 149) sum square (to-T e) in (
        side-near across R B small h,
        side-near down R A small (subst (λ (n : ℕ). rounded binary32 n ≤ rounded binary32 (R * R * U)) (swap A B) h),
      )
    where
      whole : (n : ℕ) → dist n 0 ≡ n
      whole n = omega arith

      swap : (a b : ℕ) → a + b ≡ b + a
      swap a b = omega arith
