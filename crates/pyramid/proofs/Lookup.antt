-- The part that `level` hands back. Assumes nothing.
use Prim.Native.Nat.{ℕ, zero, suc, ◌+◌, ◌-◌, ◌≤◌}
use native.Mathlib.Numerals.{add-one}
use native.Mathlib.Omega.{arith}
use mathlib.Core.Path.{◌≡◌, refl, ◌∙◌}
use mathlib.Core.List.{List, []}
use lib.ListN.{length, take, drop}
use borrow.Author.Tests.{ne_eqb}
use Rattle.std.specs.Prelude.{Err}
use Rattle.lists.specs.declared.refusal.Refusal.{Refusal}
use Rattle.lists.specs.Refusals.{verdict}
use Rattle.lists.proofs.Judged.{judged-err, refused-above}
use Rattle.pyramid_levels.specs.Levels.{level_cells, level_count, cells_above, capped}
use Rattle.pyramid_levels.specs.Refusals.{ask, level_refusal_of}
use Rattle.pyramid_levels.specs.Level.{level_answer}
use Rattle.pyramid_levels.proofs.Cells.{cells-step, cells-mono, cells-exact}
use Rattle.pyramid_levels.proofs.Refusals.{level-accepted}
use Rattle.pyramid.specs.Level.{level_part, level_in}

-- level 0, and a level above it by its place
part-base : (base levels : List ℕ) (w h k : ℕ) → k ≡ 0 → base ≡ level_part base levels w h k
part-base base levels w h zero z = refl
part-base base levels w h (suc k) z = absurd (let no : ⊥ = omega arith in no)

part-higher : (base levels : List ℕ) (w h k : ℕ) → (k ≡ 0 → ⊥)
    → take (level_cells w h k) (drop (cells_above w h k) levels) ≡ level_part base levels w h k
part-higher base levels w h zero z = absurd (z refl)
part-higher base levels w h (suc k) z = refl

-- where it begins and ends
pub record Between (levels : List ℕ) (w h k from end : ℕ) : Type 0 where
  pub begins : from ≡ cells_above w h k
  pub ends : end ≡ from + level_cells w h k
  pub fits : end ≤ length levels

module _ (base levels : List ℕ) (w h count minimum_side k : ℕ) where
  pub level-refused : (e : Refusal) → Err e ≡ verdict (level_refusal_of (ask (length base) (length levels) w h count minimum_side) k)
      → [] ≡ level_in base levels w h count minimum_side k
  unfolding level_in level_answer
  level-refused e p = rw (← judged-err _ _ _ e p, ne_eqb _ 0 (refused-above e))

  module _ (free : level_refusal_of (ask (length base) (length levels) w h count minimum_side) k ≡ 0) where
    level-part : level_part base levels w h k ≡ level_in base levels w h count minimum_side k
    unfolding level_in level_answer
    level-part = rw free

    pub level-base : k ≡ 0 → base ≡ level_in base levels w h count minimum_side k
    level-base z = part-base base levels w h k z ∙ level-part

    pub level-between : (from end : ℕ) → (k ≡ 0 → ⊥) → from ≡ capped (cells_above w h k) → end ≡ capped (cells_above w h (k + 1))
        → Between levels w h k from end
    level-between from end z p q =
        let a = level-accepted _ k free in
        let i = a.0.image in
        let b : from ≡ cells_above w h k = p ∙ cells-exact w h k i.narrow i.low in
        let e : end ≡ cells_above w h (suc k) = rw add-one at q ∙ cells-exact w h (suc k) i.narrow i.low in
        record {
          begins = b;
          ends = omega (arith, cells-step w h k z);
          fits = omega (arith, cells-mono w h (suc k) (level_count w h count minimum_side) a.1, a.0.fits);
        }

    pub level-higher : (from end : ℕ) → (k ≡ 0 → ⊥) → Between levels w h k from end
        → take (end - from) (drop from levels) ≡ level_in base levels w h count minimum_side k
    level-higher from end z b =
        let m : end - from ≡ level_cells w h k = omega (arith, b.ends) in
        rw (m, b.begins) (part-higher base levels w h k z ∙ level-part)
