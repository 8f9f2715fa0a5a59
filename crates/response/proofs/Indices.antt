-- Rows and columns of an image as indices. Assumes nothing.
use mathlib.Core.Path.{◌≡◌, ap}
use Prim.Native.Nat.{ℕ, ◌+◌, ◌*◌, ◌-◌, ◌≤◌}
use native.Mathlib.Nat.{mul-le-mul, add-mul, one-mul}
use native.Mathlib.Omega.{arith}
use Rattle.lists.specs.Limits.{largest_side, largest_map}

pub area-le : (w h : ℕ) → w ≤ largest_side → h ≤ largest_side → w * h ≤ largest_map
area-le w h p q = mul-le-mul {n₂ = 4096} {m₂ = 4096} p q

-- the rows above and below
pub row-above : (w y : ℕ) → 1 ≤ y → (y - 1) * w + w ≡ y * w
row-above w y h =
    let e : y - 1 + 1 ≡ y = omega arith in
    omega (arith, add-mul (y - 1) 1 w, one-mul w, ap (λ (n : ℕ). n * w) e)

pub row_below : (w y : ℕ) → (y + 1) * w ≡ y * w + w
row_below w y = omega (arith, add-mul y 1 w, one-mul w)

-- an offset in rows and columns, added to a place
pub place-add : (w x y a b : ℕ) → y * w + x + (b * w + a) ≡ (y + b) * w + (x + a)
place-add w x y a b = omega (arith, add-mul y b w)

-- so many rows of a square, of any width
pub rows-small : (rows w : ℕ) → rows ≤ 255 → w ≤ largest_side → rows * w ≤ 1044480
rows-small rows w p q = mul-le-mul {n₂ = 255} {m₂ = 4096} p q
