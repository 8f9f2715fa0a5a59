-- What the private functions that halve a level require and promise: source and result may both lie in the level
-- buffer.
use Rattle.std.specs.Prelude.{ℕ, zero, suc, ◌+◌, ◌*◌, ◌/◌, ◌≤◌, ◌≡◌, List, length, get_or, take, drop}
use Rattle.lists.specs.Tab.{tab, grid}
use Rattle.lists.specs.Buffer.{front, placed}
use Rattle.pyramid_levels.specs.Levels.{level_count}
use Rattle.pyramid_levels.specs.Refusals.{ask}
use Rattle.pyramid_levels.specs.Internal.{LevelsAccepted}
use Rattle.pyramid.specs.Pyramid.{box_of, half_pixel, above}

-- the slice that has level k
abbrev pub holder_of : List ℕ → List ℕ → ℕ → List ℕ
holder_of base levels zero = base
holder_of base levels (suc k) = levels

-- level k, of w by h, begins at `from`, and there is a place for it at half size from `to` on, after it if one slice
-- has both
pub record Halving (base levels : List ℕ) (k from w h to : ℕ) : Type 0 where
  pub inside : from + w * h ≤ length (holder_of base levels k)
  pub behind : (k ≡ 0 → ⊥) → from + w * h ≤ to
  pub fits : to + w / 2 * (h / 2) ≤ length levels

-- how many half-size pixels are made at a time
abbrev pub pixels_at_once : ℕ
pixels_at_once = 16

-- the half-size pixel of pair i of the columns of two rows, which begin at `top` and at `low`
abbrev pub box_at : List ℕ → ℕ → ℕ → ℕ → ℕ
box_at pixels top low i =
    box_of (get_or pixels (top + 2 * i) 0) (get_or pixels (top + 2 * i + 1) 0)
    (get_or pixels (low + 2 * i) 0) (get_or pixels (low + 2 * i + 1) 0)

-- those of n pairs, at the start of the list for them
pub record MeansMade (pixels : List ℕ) (top low n : ℕ) (out : List ℕ) : Type 0 where
  pub long : length out ≡ pixels_at_once
  pub front : take n out ≡ tab n (box_at pixels top low)

-- a run of n pairs of columns of level k, in the row that begins at `top` and the row w places further on, and a place
-- for its half-size pixels from `to` on
pub record Run (base levels : List ℕ) (k top w to n : ℕ) : Type 0 where
  pub few : n ≤ pixels_at_once
  pub inside : top + w + 2 * n ≤ length (holder_of base levels k)
  pub fits : to + n ≤ length levels

-- its half-size pixels placed at `to`
pub record RunHalved (base levels : List ℕ) (k top w to n : ℕ) (levels' : List ℕ) : Type 0 where
  pub is : levels' ≡ placed to (tab n (box_at (holder_of base levels k) top (top + w))) levels

-- the first n half-size pixels of level k's two rows that begin at `from`, placed at `to`
pub record RowHalved (base levels : List ℕ) (k from w to n : ℕ) (levels' : List ℕ) : Type 0 where
  pub is : levels' ≡ placed to (tab n (λ x. half_pixel (drop from (holder_of base levels k)) w x 0)) levels

-- the first n half-size rows of level k, which begins at `from`, placed at `to`
pub record LevelHalved (base levels : List ℕ) (k from w to n : ℕ) (levels' : List ℕ) : Type 0 where
  pub is : levels' ≡ placed to (grid (w / 2) n (half_pixel (drop from (holder_of base levels k)) w)) levels

-- levels 1 .. n - 1 of the pyramid over a base of w by h, at the start of the buffer
pub record LevelsFilled (base : List ℕ) (w h n : ℕ) (levels levels' : List ℕ) : Type 0 where
  pub is : levels' ≡ front (above base w h n) levels

-- ---- for callers

-- the level buffer d after a pyramid of n levels was built over a base of w by h
pub record LevelsComplete (base : List ℕ) (w h count minimum_side : ℕ) (d e : List ℕ) (n : ℕ) : Type 0 where
  pub allowed : LevelsAccepted (ask (length base) (length d) w h count minimum_side)
  pub counted : n ≡ level_count w h count minimum_side
  pub long : length e ≡ length d
  pub fills : e ≡ front (above base w h n) d
