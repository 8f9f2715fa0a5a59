-- Conditions 1 and 2 of RULES 2.2, which are checked first for every image and every map: their table and its number.
use Rattle.std.specs.Prelude.{ℕ, Bool, List, [], ◌∷◌}
use Rattle.lists.specs.Refusals.{lowest, is_large, is_misfit}

-- for `size` elements and the sides w and h
abbrev pub conditions : ℕ → ℕ → ℕ → List (Bool × ℕ)
conditions size w h = (is_large w h, 1) ∷ (is_misfit size w h, 2) ∷ []

-- 1, 2, or 0 for none
unfoldable pub refusal_of : ℕ → ℕ → ℕ → ℕ
refusal_of size w h = lowest (conditions size w h)
