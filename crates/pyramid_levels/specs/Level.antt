-- What `level_at` answers: where level k lies.
use Rattle.std.specs.Prelude.{ℕ, ◌≡◌, List, [], ◌∷◌, Result}
use Rattle.lists.specs.declared.refusal.Refusal.{Refusal}
use Rattle.lists.specs.Refusals.{number_of, values_by, values_unless, judged}
use Rattle.pyramid_levels.specs.Levels.{level_side, cells_above}
use Rattle.pyramid_levels.specs.Refusals.{Ask, level_refusal_of}
use Rattle.pyramid_levels.specs.declared.Level.{Level}

-- the values of an answer (RULES 6.5): where the level begins, with its sides
abbrev pub values_of : Result Level Refusal → List ℕ
values_of = values_by (λ l. l.from ∷ l.width ∷ l.height ∷ [])

-- the answer for level k: where it begins, in the base or in the level buffer, and its sides
unfoldable pub level_answer : Ask → ℕ → Result Level Refusal
unfolding level_refusal_of
level_answer a k =
    judged (level_refusal_of a k)
    (record { from = cells_above a.w a.h k; width = level_side a.w k; height = level_side a.h k })

-- the promise of `level_at`
pub record LevelFound (a : Ask) (k : ℕ) (r : Result Level Refusal) : Type 0 where
  pub answer : r ≡ level_answer a k
  pub number : number_of r ≡ level_refusal_of a k
  pub values : values_of r ≡ values_unless (level_refusal_of a k)
      (cells_above a.w a.h k ∷ level_side a.w k ∷ level_side a.h k ∷ [])
