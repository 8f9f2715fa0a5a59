-- The lengths of a level and of the levels above the base. Assumes nothing.
use Prim.Native.Nat.{ℕ, zero, suc, ◌+◌, ◌-◌, ◌*◌, ◌/◌, ◌≤◌}
use native.Mathlib.Nat.{mul_comm}
use native.Mathlib.Omega.{arith}
use mathlib.Core.Path.{◌≡◌, refl, ap₂, ◌∙◌}
use mathlib.Core.List.{List}
use lib.ListN.{length, length-append}
use Rattle.lists.proofs.Tab.{length-grid}
use Rattle.pyramid_levels.specs.Levels.{level_side, level_cells, cells_above}
use Rattle.pyramid_levels.proofs.Sides.{side-next}
use Rattle.pyramid_levels.proofs.Cells.{cells-base}
use Rattle.pyramid.specs.Pyramid.{half_pixel, halved, level_pixels, above}

pub length-halved : (img : List ℕ) (w h : ℕ) → length (halved img w h) ≡ w / 2 * (h / 2)
unfolding halved
length-halved img w h = length-grid (w / 2) (h / 2) (half_pixel img w) ∙ mul_comm (h / 2) (w / 2)

pub length-higher : (img : List ℕ) (w h k : ℕ) → length (level_pixels img w h (suc k)) ≡ level_cells w h (suc k)
unfolding level_pixels
length-higher img w h k =
    length-halved (level_pixels img w h k) (level_side w k) (level_side h k)
    ∙ ap₂ (λ (a b : ℕ). a * b) (side-next w k (level_side w k) refl) (side-next h k (level_side h k) refl)

pub length-level : (img : List ℕ) (w h k : ℕ) → length img ≡ w * h → length (level_pixels img w h k) ≡ level_cells w h k
unfolding level_pixels
length-level img w h zero e = e ∙ cells-base w h
length-level img w h (suc k) e = length-higher img w h k

pub length_above : (img : List ℕ) (w h n : ℕ) → length (above img w h n) ≡ cells_above w h n
unfolding above cells_above
length_above img w h zero = refl
length_above img w h (suc zero) = refl
length_above img w h (suc (suc k)) =
    length-append (above img w h (suc k)) (level_pixels img w h (suc k))
    ∙ ap₂ (λ (a b : ℕ). a + b) (length_above img w h (suc k)) (length-higher img w h k)

-- n levels have a last one, or there are none
pub above-last : (img : List ℕ) (w h n k : ℕ) → n ≤ k + 1 → k ≤ n - 1 → above img w h (suc k) ≡ above img w h n
unfolding above
above-last img w h zero k p q = let z : k ≡ 0 = omega arith in rw z
above-last img w h (suc n) k p q = let z : k ≡ n = omega arith in rw z
