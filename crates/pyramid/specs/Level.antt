-- What `level` returns: the pixels of level k.
use Rattle.std.specs.Prelude.{ℕ, zero, suc, cond, List, [], eqb, length, take, drop}
use Rattle.pyramid_levels.specs.Levels.{level_cells, cells_above}
use Rattle.lists.specs.Refusals.{number_of}
use Rattle.pyramid_levels.specs.Refusals.{ask}
use Rattle.pyramid_levels.specs.Level.{level_answer}

-- level 0 is the base, and each other level a part of the level buffer
abbrev pub level_part : List ℕ → List ℕ → ℕ → ℕ → ℕ → List ℕ
level_part base levels w h zero = base
level_part base levels w h (suc k) = take (level_cells w h (suc k)) (drop (cells_above w h (suc k)) levels)

-- the promise of `level`: level k, and nothing if `level_at` refuses it
unfoldable pub level_in : List ℕ → List ℕ → ℕ → ℕ → ℕ → ℕ → ℕ → List ℕ
unfolding level_answer
level_in base levels w h count minimum_side k =
    cond (eqb (number_of (level_answer (ask (length base) (length levels) w h count minimum_side) k)) 0)
    (level_part base levels w h k) []
