-- Why a pyramid is not built or a level is refused: numbers 1, 2, 3 and 9 (RULES 2.2, 6.5).
use Rattle.std.specs.Prelude.{ℕ, Bool, [], ◌∷◌, ltb, leb}
use Rattle.lists.specs.Refusals.{lowest}
pub use Rattle.lists.specs.Refusals.{is_large, is_misfit}
use Rattle.pyramid_levels.specs.Levels.{level_count, cells_above}

-- what is checked: the number of pixels of a base, with its sides, the number of places of a level buffer, how many
-- levels are asked for and their least side
pub record Ask : Type 0 where
  pub pixels : ℕ
  pub places : ℕ
  pub w : ℕ
  pub h : ℕ
  pub count : ℕ
  pub minimum_side : ℕ

abbrev pub ask : ℕ → ℕ → ℕ → ℕ → ℕ → ℕ → Ask
ask pixels places w h count minimum_side =
    record { pixels = pixels; places = places; w = w; h = h; count = count; minimum_side = minimum_side }

-- how many levels it has
abbrev pub levels_of : Ask → ℕ
levels_of a = level_count a.w a.h a.count a.minimum_side

-- 3: level k is not built
abbrev pub is_absent : Ask → ℕ → Bool
is_absent a k = leb (levels_of a) k

-- 9: the level buffer is shorter than the pixels of the levels above the base
abbrev pub is_level_buffer_short : Ask → Bool
is_level_buffer_short a = ltb a.places (cells_above a.w a.h (levels_of a))

-- the lowest number that refuses to build, 0 for none
unfoldable pub build_refusal_of : Ask → ℕ
build_refusal_of a =
    lowest ((is_large a.w a.h, 1) ∷ (is_misfit a.pixels a.w a.h, 2) ∷ (is_level_buffer_short a, 9) ∷ [])

-- the lowest number that refuses level k, 0 for none
unfoldable pub level_refusal_of : Ask → ℕ → ℕ
level_refusal_of a k =
    lowest ((is_large a.w a.h, 1) ∷ (is_misfit a.pixels a.w a.h, 2) ∷ (is_absent a k, 3)
    ∷ (is_level_buffer_short a, 9) ∷ [])
