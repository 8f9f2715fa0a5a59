-- The levels of a pyramid (RULES 6.2, 6.3): their sides, how many of them there are, and how many pixels they have.
use Rattle.std.specs.Prelude.{ℕ, zero, suc, ◌+◌, ◌-◌, ◌*◌, ◌/◌, ◌^◌, min, Bool, cond, ◌||◌, ltb, eqb}

-- a side of level k, whose scale is 2^-k
abbrev pub level_side : ℕ → ℕ → ℕ
level_side side k = side / 2 ^ k

-- ---- how many levels there are

-- whether a side is below the minimum size
abbrev pub is_below : ℕ → ℕ → ℕ → Bool
is_below w h minimum_side = ltb w minimum_side || ltb h minimum_side

-- whether a new level of w by h is not built: a side is 0 or below the minimum size
abbrev pub is_too_small : ℕ → ℕ → ℕ → Bool
is_too_small w h minimum_side = eqb w 0 || eqb h 0 || is_below w h minimum_side

-- how many levels there are above one of w by h, at most n: halving goes on until the count is reached or a new level
-- is too small
unfoldable pub halvings : ℕ → ℕ → ℕ → ℕ → ℕ
halvings zero w h minimum_side = 0
halvings (suc n) w h minimum_side =
    cond (is_too_small (w / 2) (h / 2) minimum_side) 0 (suc (halvings n (w / 2) (h / 2) minimum_side))

-- no levels if the level count is 0 or a base side is below the minimum size; otherwise the base is level 0, with those
-- above it
unfoldable pub level_count : ℕ → ℕ → ℕ → ℕ → ℕ
unfolding halvings
level_count w h zero minimum_side = 0
level_count w h (suc n) minimum_side = cond (is_below w h minimum_side) 0 (suc (halvings n w h minimum_side))

-- ---- how many pixels they have

-- how many pixels level k has
abbrev pub level_cells : ℕ → ℕ → ℕ → ℕ
level_cells w h k = level_side w k * level_side h k

-- how many pixels levels 1 .. n - 1 have; level n begins after them
unfoldable pub cells_above : ℕ → ℕ → ℕ → ℕ
cells_above w h zero = 0
cells_above w h (suc zero) = 0
cells_above w h (suc (suc k)) = cells_above w h (suc k) + level_cells w h (suc k)

-- a number as a usize holds it: the largest one if it is larger
abbrev pub capped : ℕ → ℕ
capped n = min n (2 ^ 64 - 1)
