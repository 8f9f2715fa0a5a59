-- How many pixels the levels have, where each level begins and ends, and that those above the base are fewer than its own. Assumes nothing.
use Prim.Native.Nat.{ℕ, zero, suc, ◌+◌, ◌-◌, ◌*◌, ◌/◌, ◌<◌, ◌≤◌}
use native.Mathlib.Nat.{mul-le-mul, eq-or-lt_of_le, le_of_suc-le-suc, le_trans}
use native.Mathlib.Numerals.{add-one}
use native.Mathlib.Omega.{arith}
use mathlib.Core.Path.{◌≡◌, refl, ap, ap₂, ◌∙◌}
use mathlib.Core.Logic.{⊎_elim}
use Rattle.lists.specs.Limits.{largest_side}
use Rattle.pyramid_levels.specs.Levels.{level_side, level_cells, cells_above, capped}
use Rattle.pyramid_levels.proofs.Sides.{side-base, side-next}

-- ---- where a loop over the levels begins, goes on and ends

-- levels 1 .. k, and one level more, of a by b
pub cells-next : (w h k a b : ℕ) → a ≡ level_side w (suc k) → b ≡ level_side h (suc k)
    → cells_above w h (suc k) + a * b ≡ cells_above w h (suc (suc k))
unfolding cells_above
cells-next w h k a b p q = rw (p, q)

-- the levels counted up to k are those below n
pub cells-last : (w h n k : ℕ) → n ≤ k → k - 1 ≤ n - 1 → cells_above w h k ≡ cells_above w h n
unfolding cells_above
cells-last w h zero zero p q = refl
cells-last w h zero (suc k) p q = let z : k ≡ 0 = omega arith in rw z
cells-last w h (suc n) k p q = let z : k ≡ suc n = omega arith in rw z

-- level 0 has the base's pixels
pub cells-base : (w h : ℕ) → w * h ≡ level_cells w h 0
cells-base w h = ap₂ (λ (a b : ℕ). a * b) (side-base w) (side-base h)

-- ---- where the levels begin and end

-- level k ends where the next one begins
pub cells-step : (w h k : ℕ) → (k ≡ 0 → ⊥) → cells_above w h (suc k) ≡ cells_above w h k + level_cells w h k
unfolding cells_above
cells-step w h zero z = absurd (z refl)
cells-step w h (suc k) z = refl

-- level k, of a by b, added to those below it
pub cells-with : (w h k a b : ℕ) → 0 < k → a ≡ level_side w k → b ≡ level_side h k
    → cells_above w h (k + 1) ≡ cells_above w h k + a * b
cells-with w h k a b z p q = rw (p, q) (rw add-one (cells-step w h k (λ (y : k ≡ 0). omega arith)))

cells_up : (w h n : ℕ) → cells_above w h n ≤ cells_above w h (suc n)
unfolding cells_above
cells_up w h zero = omega arith
cells_up w h (suc n) = omega arith

pub cells-mono : (w h k n : ℕ) → k ≤ n → cells_above w h k ≤ cells_above w h n
cells-mono w h k zero l = let z : k ≡ 0 = omega arith in rw z (omega arith)
cells-mono w h k (suc n) l =
    ⊎_elim (λ (e : k ≡ suc n). rw e (omega arith))
    (λ (m : k < suc n). omega (arith, cells-mono w h k n (le_of_suc-le-suc m), cells_up w h n)) (eq-or-lt_of_le l)

-- ---- above a level without pixels no level has any

cells-fall : (w h k n : ℕ) → k ≤ n → level_cells w h n ≤ level_cells w h k
cells-fall w h k zero l = let z : k ≡ 0 = omega arith in rw z (omega arith)
cells-fall w h k (suc n) l =
    ⊎_elim (λ (e : k ≡ suc n). rw e (omega arith))
    (λ (m : k < suc n). le_trans (down n) (cells-fall w h k n (le_of_suc-le-suc m))) (eq-or-lt_of_le l)
  where
    down : (n : ℕ) → level_cells w h (suc n) ≤ level_cells w h n
    down n = mul-le-mul (omega (arith, side-next w n (level_side w n) refl)) (omega (arith, side-next h n (level_side h n) refl))

pub cells-stop : (w h k n : ℕ) → (k ≡ 0 → ⊥) → level_cells w h k ≡ 0 → k ≤ n → cells_above w h k ≡ cells_above w h n
cells-stop w h k zero z e l = absurd (z (omega arith))
cells-stop w h k (suc n) z e l =
    ⊎_elim (λ (q : k ≡ suc n). rw q)
    (λ (m : k < suc n).
    let m' : k ≤ n = le_of_suc-le-suc m in
    let one = cells-step w h n (λ (y : n ≡ 0). z (omega arith)) in
    omega (arith, cells-stop w h k n z e m', one, cells-fall w h k n m')) (eq-or-lt_of_le l)

-- ---- three times the pixels of the levels above the base are at most its own

quarter : (a b : ℕ) → 4 * (a / 2 * (b / 2)) ≤ a * b
quarter a b = let h : 2 * (a / 2) * (2 * (b / 2)) ≤ a * b = mul-le-mul (omega arith) (omega arith) in omega arith

third : (w h k : ℕ) → 3 * cells_above w h (suc k) + level_cells w h k ≤ w * h
unfolding cells_above
third w h zero = omega (arith, cells-base w h)
third w h (suc k) =
    omega (
      arith,
      third w h k,
      rw (side-next w k (level_side w k) refl, side-next h k (level_side h k) refl) at (quarter (level_side w k) (level_side h k)),
    )

pub cells-le : (w h n : ℕ) → 3 * cells_above w h n ≤ w * h
unfolding cells_above
cells-le w h zero = omega arith
cells-le w h (suc k) = omega (arith, third w h k)

-- ---- as a usize holds them

-- a level, of a by b, has no pixels, and neither has one above it
pub capped-stop : (w h k n a b s t : ℕ) → 0 < k → a ≡ level_side w k → b ≡ level_side h k → s ≡ capped (cells_above w h k)
    → t ≡ capped (a * b)
    → t ≡ 0 → k ≤ n → s ≡ capped (cells_above w h n)
capped-stop w h k n a b s t z p q i j e l =
    let none : level_cells w h k ≡ 0 = rw (← p, ← q) (omega arith) in
    i ∙ ap capped (cells-stop w h k n (λ (y : k ≡ 0). omega arith) none l)

-- up to the largest side no count is cut off
pub cells-exact : (w h n : ℕ) → w ≤ largest_side → h ≤ largest_side → capped (cells_above w h n) ≡ cells_above w h n
cells-exact w h n p q = omega (arith, cells-le w h n, mul-le-mul p q)
