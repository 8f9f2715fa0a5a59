-- The levels above the base, one behind the other: where each lies, and what stands there once they are built. Assumes nothing.
use Prim.Native.Nat.{ℕ, zero, suc, ◌+◌, ◌*◌, ◌<◌, ◌≤◌}
use native.Mathlib.Nat.{eq-or-lt_of_le, le_of_suc-le-suc, not-suc-le-zero}
use native.Mathlib.Omega.{arith}
use mathlib.Core.Path.{◌≡◌, refl, ap, ◌∙◌}
use mathlib.Core.Logic.{⊎_elim}
use mathlib.Core.List.{List, ◌++◌, append_assoc}
use lib.ListN.{length, take, drop}
use lib.Seq.{take_all, take_at, drop_at}
use Rattle.lists.specs.Buffer.{front}
use Rattle.pyramid_levels.specs.Levels.{level_cells, cells_above}
use Rattle.pyramid_levels.proofs.Cells.{cells-base, cells-mono}
use Rattle.pyramid.specs.Pyramid.{level_pixels, above}
use Rattle.pyramid.specs.Level.{level_part}
use Rattle.pyramid.specs.Internal.{holder_of}
use Rattle.pyramid.proofs.Lengths.{length-higher, length_above}

-- level k lies in the slice that holds it
pub level-inside : (base s : List ℕ) (w h n k : ℕ) → length base ≡ w * h → cells_above w h n ≤ length s → k < n
    → cells_above w h k + level_cells w h k ≤ length (holder_of base s k)
unfolding cells_above
level-inside base s w h n zero e f l = omega (arith, e, cells-base w h)
level-inside base s w h n (suc k) e f l = omega (arith, cells-mono w h (suc (suc k)) n l)

-- ---- a level of a filled buffer

part-built : (img d : List ℕ) (w h k n : ℕ) → suc k < n
    → take (level_cells w h (suc k)) (drop (cells_above w h (suc k)) (above img w h n ++ d)) ≡ level_pixels img w h (suc k)
unfolding above
part-built img d w h k zero l = absurd (not-suc-le-zero l)
part-built img d w h k (suc zero) l = absurd (let no : ⊥ = omega arith in no)
part-built img d w h k (suc (suc m)) l =
    ap (λ (s : List ℕ). take (level_cells w h (suc k)) (drop (cells_above w h (suc k)) s))
    (append_assoc (above img w h (suc m)) (level_pixels img w h (suc m)) d)
    ∙ ⊎_elim
    (λ (e : k ≡ m).
    rw e
    (ap (take (level_cells w h (suc m)))
    (drop_at (above img w h (suc m)) (level_pixels img w h (suc m) ++ d) (cells_above w h (suc m)) (length_above img w h (suc m)))
    ∙ take_at (level_pixels img w h (suc m)) d (level_cells w h (suc m)) (length-higher img w h m)))
    (λ (q : k < m). part-built img (level_pixels img w h (suc m) ++ d) w h k (suc m) (omega arith))
    (eq-or-lt_of_le (le_of_suc-le-suc (le_of_suc-le-suc l)))

pub level-built : (base d : List ℕ) (w h n k : ℕ) → k < n → level_part base (front (above base w h n) d) w h k ≡ level_pixels base w h k
unfolding level_pixels
level-built base d w h n zero l = refl
level-built base d w h n (suc k) l = part-built base (drop (length (above base w h n)) d) w h k n l

-- a level's part by its place in the slice that it lies in
pub part-is : (base levels : List ℕ) (w h k : ℕ) → length base ≡ w * h
    → take (level_cells w h k) (drop (cells_above w h k) (holder_of base levels k)) ≡ level_part base levels w h k
unfolding cells_above
part-is base levels w h zero e = take_all (level_cells w h 0) base (omega (arith, e, cells-base w h))
part-is base levels w h (suc k) e = refl
