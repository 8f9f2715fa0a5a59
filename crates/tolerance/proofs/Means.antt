-- Two means of the same places: where each weight of the one is that of the other to 5 parts in 1024, and the places lie among five in a
-- row, the means lie within 1 / 100 of one another. Whole numbers only. Assumes nothing.
use Prim.Native.Nat.{ℕ, zero, suc, ◌+◌, ◌-◌, ◌*◌, ◌≤◌, ◌<◌}
use native.Mathlib.Nat.{mul_comm, mul_left_comm, mul-zero, add-mul, mul-add, mul-le-mul_right, mul-le-mul_left, eq-zero-or-pos}
use native.Mathlib.Omega.{arith}
use mathlib.Core.Path.{◌≡◌, ap}
use mathlib.Core.Logic.{◌⊎◌, inl, inr, ⊎_elim}
use mathlib.Core.List.{List, [], ◌∷◌}
use Rattle.lists.specs.Places.{sum_of, All}
use Rattle.lists.proofs.Members.{all_map, sum-weighted}
use Rattle.float32.specs.Value.{dist}
use Rattle.float32.proofs.Poly.{poly}

-- |a - b| ≤ c
abbrev pub Apart : ℕ → ℕ → ℕ → Type 0
Apart a b c = (a ≤ b + c) × (b ≤ a + c)

-- a weight of b units, L of which are 1, and one of e fifths: |b / L - e / 5| ≤ e / 1024
abbrev pub Alike : ℕ → ℕ → ℕ → Type 0
Alike L b e = Apart (5120 * b) (1024 * (L * e)) (5 * (L * e))

-- ---- one place
-- u and v are t apart
abbrev Distance : ℕ → ℕ → ℕ → Type 0
Distance u v t = (u ≡ v + t) ⊎ (v ≡ u + t)

distance : (u v : ℕ) → Distance u v (dist u v)
distance u v = ⊎_elim (λ z. inl (omega arith)) (λ z. inr (omega arith)) (eq-zero-or-pos (v - u))

-- what two alike weights at u differ in about v: |(b / L - e / 5) (u - v)| ≤ e t / 1024
abbrev Share : ℕ → ℕ → ℕ → ℕ → ℕ → ℕ → Type 0
Share L b e u v t = Apart (5120 * (u * b) + 1024 * (v * (L * e))) (1024 * (u * (L * e)) + 5120 * (v * b)) (5 * (t * (L * e)))

share : (L b e u v t : ℕ) → Alike L b e → Distance u v t → Share L b e u v t
share L b e u v t a = ⊎_elim (past u v) (λ k. let s = past v u k in (omega arith, omega arith))
  where
    past : (u v : ℕ) → u ≡ v + t → Share L b e u v t
    past u v k =
        let p = simp poly at (mul-le-mul_right t a.0) in
        let q = simp poly at (mul-le-mul_right t a.1) in
        rw k (simp poly (omega arith), simp poly (omega arith))

-- how far a place d of 0 .. 4 is from a mean D / Q of such: 2 |d - D / Q| ≤ 2 D / Q + 2 d - d D / Q
deviation : (d Q D t : ℕ) → d ≤ 4 → D ≤ 4 * Q → Distance (d * Q) D t → 2 * t + d * D ≤ 2 * D + 2 * (d * Q)
deviation d Q D t h k = ⊎_elim past short
  where
    past : d * Q ≡ D + t → 2 * t + d * D ≤ 2 * D + 2 * (d * Q)
    past e = let p : d * D ≤ 4 * D = mul-le-mul_right D h in omega arith

    short : D ≡ d * Q + t → 2 * t + d * D ≤ 2 * D + 2 * (d * Q)
    short e = let p : d * D ≤ d * (4 * Q) = mul-le-mul_left d k in omega (arith, mul_left_comm d 4 Q)

-- a place more, at d with weight w, x from the mean
deviated : (Q D S M E x d w : ℕ) → 2 * S + D * M ≤ 2 * (D * E) + 2 * (Q * M) → 2 * x + d * D ≤ 2 * D + 2 * (d * Q)
    → 2 * (x * w + S) + D * (d * w + M) ≤ 2 * (D * (w + E)) + 2 * (Q * (d * w + M))
deviated Q D S M E x d w k h = let s = mul-le-mul_right w h in omega arith

-- ---- all places: weights b and e, and d a place of 0 .. 4 for each
module _ {A : Type 0} (L : ℕ) (b e : A → ℕ) where
  sums-alike : (l : List A) → All (λ a. Alike L (b a) (e a)) l → Alike L (sum_of b l) (sum_of e l)
  sums-alike [] h = (omega arith, omega arith)
  sums-alike (a ∷ l) h = let k = sums-alike l h.1 in rw (mul-add L (e a) (sum_of e l)) (omega (arith, h.0), omega (arith, h.0))

  -- some weight on one side is some on the other
  pub some-mass : (l : List A) → All (λ a. Alike L (b a) (e a)) l → 0 < sum_of b l → 0 < sum_of e l
  some-mass l h p = not_none (sum_of b l) (sum_of e l) p (sums-alike l h).0
    where
      not_none : (Y Q : ℕ) → 0 < Y → 5120 * Y ≤ 1024 * (L * Q) + 5 * (L * Q) → 0 < Q
      not_none Y zero p k = absurd (omega (arith, mul-zero L))
      not_none Y (suc Q) p k = omega arith

  module _ (d : A → ℕ) where
    abbrev moment : (A → ℕ) → List A → ℕ
    moment X l = sum_of (λ a. d a * X a) l

    -- the weights e at their distances from D / Q, times Q
    abbrev spread : ℕ → ℕ → List A → ℕ
    spread Q D l = sum_of (λ a. dist (d a * Q) D * e a) l

    shares : (Q D : ℕ) (l : List A) → All (λ a. Alike L (b a) (e a)) l
        → Apart (5120 * (Q * moment b l) + 1024 * (D * (L * sum_of e l))) (1024 * (Q * (L * moment e l)) + 5120 * (D * sum_of b l))
        (5 * (L * spread Q D l))
    shares Q D [] h = (omega arith, omega arith)
    shares Q D (a ∷ l) h =
        let k = shares Q D l h.1 in
        let s = share L (b a) (e a) (d a * Q) D (dist (d a * Q) D) h.0 (distance (d a * Q) D) in
        let k0 = simp poly at k.0 in
        let k1 = simp poly at k.1 in
        let s0 = simp poly at s.0 in
        let s1 = simp poly at s.1 in
        (simp poly (omega arith), simp poly (omega arith))

    deviations : (Q D : ℕ) (l : List A) → D ≤ 4 * Q → All (λ a. d a ≤ 4) l
        → 2 * spread Q D l + D * moment e l ≤ 2 * (D * sum_of e l) + 2 * (Q * moment e l)
    deviations Q D [] h f = omega arith
    deviations Q D (a ∷ l) h f =
        deviated Q D (spread Q D l) (moment e l) (sum_of e l) (dist (d a * Q) D) (d a) (e a) (deviations Q D l h f.1)
        (deviation (d a) Q D (dist (d a * Q) D) f.0 h (distance (d a * Q) D))

-- ---- the two means Z / Y and D / Q, from the shares of all places
square : (a b : ℕ) → 2 * (a * b) ≤ a * a + b * b
square a b =
    ⊎_elim (λ z. more a b (b - a) (omega arith)) (λ z. let k = more b a (a - b) (omega arith) in omega (arith, mul_comm a b))
    (eq-zero-or-pos (a - b))
  where
    more : (a b s : ℕ) → b ≡ a + s → 2 * (a * b) ≤ a * a + b * b
    more a b s e = rw e (simp poly (omega arith))

close : (L Z Y D Q T : ℕ) → Alike L Y Q
    → Apart (5120 * (Q * Z) + 1024 * (D * (L * Q))) (1024 * (Q * (L * D)) + 5120 * (D * Y)) (5 * (L * T))
    → 2 * T + D * D ≤ 2 * (D * Q) + 2 * (Q * D)
    → Apart (100 * (Z * Q)) (100 * (D * Y)) (Y * Q)
close L Z Y D Q T a s t =
    let q = simp poly at (square (2 * Q) D) in
    let n : T ≤ 2 * (Q * Q) = omega (arith, mul_comm Q D) in
    let n' = simp poly at (mul-le-mul_left L n) in
    let a' = simp poly at (mul-le-mul_right Q a.1) in
    let s0 = simp poly at s.0 in
    let s1 = simp poly at s.1 in
    (simp poly (omega arith), simp poly (omega arith))

-- ---- places co, five in a row from s on
module _ {A : Type 0} (co : A → ℕ) (s : ℕ) where
  abbrev pub InRow : A → Type 0
  InRow a = (s ≤ co a) × (co a ≤ s + 4)

  -- counted from s
  shifted : (X : A → ℕ) (l : List A) → All InRow l → sum_of (λ a. co a * X a) l ≡ s * sum_of X l + sum_of (λ a. (co a - s) * X a) l
  shifted X [] h = omega (arith, mul-zero s)
  shifted X (a ∷ l) h =
      let k : co a ≡ s + (co a - s) = omega (arith, h.0) in
      omega (arith, shifted X l h.1, mul-add s (X a) (sum_of X l), ap (λ (z : ℕ). z * X a) k, add-mul s (co a - s) (X a))

  -- the means of the weights b and e: |X / Y - P / Q| ≤ 1 / 100
  pub means-close : (L : ℕ) (b e : A → ℕ) (l : List A) → All (λ a. Alike L (b a) (e a)) l → All InRow l
      → Apart (100 * (sum_of (λ a. co a * b a) l * sum_of e l)) (100 * (sum_of (λ a. co a * e a) l * sum_of b l)) (sum_of b l * sum_of e l)
  means-close L b e l alike row =
      let d : A → ℕ = λ a. co a - s in
      let four : All (λ a. co a - s ≤ 4) l = all_map InRow (λ a. co a - s ≤ 4) (λ a h. omega arith) l row in
      let Y = sum_of b l in
      let Q = sum_of e l in
      let Z = sum_of (λ a. (co a - s) * b a) l in
      let D = sum_of (λ a. (co a - s) * e a) l in
      let narrow : D ≤ 4 * Q = sum-weighted (λ a. (co a - s) * e a) e 4 l
      (all_map (λ a. co a - s ≤ 4) _ (λ a h. mul-le-mul_right (e a) h) l four) in
      let k = close L Z Y D Q (spread L b e d Q D l) (sums-alike L b e l alike) (shares L b e d Q D l alike)
      (deviations L b e d Q D l narrow four) in
      rw (shifted b l row, shifted e l row) (moved Z Y D Q k)
    where
      moved : (Z Y D Q : ℕ) → Apart (100 * (Z * Q)) (100 * (D * Y)) (Y * Q)
          → Apart (100 * ((s * Y + Z) * Q)) (100 * ((s * Q + D) * Y)) (Y * Q)
      moved Z Y D Q k =
          let k0 = simp poly at k.0 in
          let k1 = simp poly at k.1 in
          (simp poly (omega arith), simp poly (omega arith))
