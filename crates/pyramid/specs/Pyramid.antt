-- The box-filter image pyramid (RULES 6.1, 6.3): half-size images, and the levels.
-- An image is the list of its pixels in row order, with its sides.
use Rattle.std.specs.Prelude.{ℕ, zero, suc, ◌+◌, ◌*◌, ◌/◌, List, [], ◌++◌}
use Rattle.lists.specs.Tab.{grid, pixel}
use Rattle.pyramid_levels.specs.Levels.{level_side}

-- a half-size pixel: (sum of four + 2) div 4
abbrev pub box_of : ℕ → ℕ → ℕ → ℕ → ℕ
box_of a b c d = (a + b + c + d + 2) / 4

-- the half-size pixel of column x and row y
unfoldable pub half_pixel : List ℕ → ℕ → ℕ → ℕ → ℕ
half_pixel img w x y =
    box_of (pixel img w (2 * x) (2 * y)) (pixel img w (2 * x + 1) (2 * y))
    (pixel img w (2 * x) (2 * y + 1)) (pixel img w (2 * x + 1) (2 * y + 1))

-- an image of w by h at half size: an odd last row or column is dropped
unfoldable pub halved : List ℕ → ℕ → ℕ → List ℕ
unfolding half_pixel grid
halved img w h = grid (w / 2) (h / 2) (half_pixel img w)

-- the pixels of level k: those of the base, halved k times
unfoldable pub level_pixels : List ℕ → ℕ → ℕ → ℕ → List ℕ
unfolding halved
level_pixels img w h zero = img
level_pixels img w h (suc k) = halved (level_pixels img w h k) (level_side w k) (level_side h k)

-- the levels above the base, one after the other: the pixels of levels 1 .. n - 1
unfoldable pub above : List ℕ → ℕ → ℕ → ℕ → List ℕ
unfolding level_pixels
above img w h zero = []
above img w h (suc zero) = []
above img w h (suc (suc k)) = above img w h (suc k) ++ level_pixels img w h (suc k)
