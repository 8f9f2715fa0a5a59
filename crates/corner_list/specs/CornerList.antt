-- A list of corners in a buffer of four slices, of which the shortest counts (RULES 1.5, 1.6).
use Rattle.std.specs.Prelude.{ℕ, suc, min, Bool, false, ◌&&◌, cond, List, [], ◌∷◌, ◌++◌, map, length, get_or, set, take}
use Rattle.std.specs.Prelude.{drop, ltb, pos, Float}
use Rattle.std.specs.Float.{nan, fin}
use Rattle.lists.specs.Tab.{tab}
use Rattle.lists.specs.Buffer.{front, placed}
use Rattle.float32.specs.Float32.{zero, between}
use Rattle.corner_list.specs.declared.Corner.{Corner}

-- 4: the largest side as a float
abbrev pub largest_coordinate : Float
largest_coordinate = fin false 1 (pos 12)

-- a corner that the box and the merge accept: its coordinates are from 0 to the largest
unfoldable pub is_inside : Corner → Bool
is_inside c = between zero largest_coordinate c.x && between zero largest_coordinate c.y

-- the contents of the four slices
pub record Slices : Type 0 where
  pub xs : List Float
  pub ys : List Float
  pub strengths : List Float
  pub neighbours : List ℕ

abbrev pub slices : List Float → List Float → List Float → List ℕ → Slices
slices xs ys strengths neighbours = record { xs = xs; ys = ys; strengths = strengths; neighbours = neighbours }

-- a corner's field in each slice
abbrev pub x_of : Corner → Float
x_of c = c.x

abbrev pub y_of : Corner → Float
y_of c = c.y

abbrev pub strength_of : Corner → Float
strength_of c = c.strength

abbrev pub neighbours_of : Corner → ℕ
neighbours_of c = c.neighbours

-- how many corners the buffer can hold
abbrev pub places_of : Slices → ℕ
places_of b = min (length b.xs) (min (length b.ys) (min (length b.strengths) (length b.neighbours)))

-- the corner at a place; a field whose slice is too short is NaN, and 0 for the neighbours
abbrev pub corner_at : Slices → ℕ → Corner
corner_at b i =
    record {
      x = get_or b.xs i nan;
      y = get_or b.ys i nan;
      strength = get_or b.strengths i nan;
      neighbours = get_or b.neighbours i 0;
    }

-- the first n corners
abbrev pub corners_of : Slices → ℕ → List Corner
corners_of b n = tab n (corner_at b)

-- ---- the buffer after a change: each slice changes in the same way

-- a corner's fields at a place of each slice
abbrev pub set_corner : ℕ → Corner → Slices → Slices
set_corner i c b =
    slices (set b.xs i c.x) (set b.ys i c.y) (set b.strengths i c.strength)
    (set b.neighbours i c.neighbours)

-- a corner put at a place of the buffer; if one slice has no such place, no slice changes
unfoldable pub with_corner : ℕ → Corner → Slices → Slices
with_corner i c b = cond (ltb i (places_of b)) (set_corner i c b) b

-- the corners cs at the start, the rest of the buffer unchanged
abbrev pub front_corners : List Corner → Slices → Slices
front_corners cs b =
    slices (front (map x_of cs) b.xs) (front (map y_of cs) b.ys)
    (front (map strength_of cs) b.strengths) (front (map neighbours_of cs) b.neighbours)

-- the corners cs after the first `held`, the buffer before and after them unchanged
abbrev pub placed_corners : ℕ → List Corner → Slices → Slices
placed_corners held cs b =
    slices (placed held (map x_of cs) b.xs) (placed held (map y_of cs) b.ys)
    (placed held (map strength_of cs) b.strengths)
    (placed held (map neighbours_of cs) b.neighbours)

-- a list without the member at a place: the later ones move up
abbrev pub without : {A : Type 0} → ℕ → List A → List A
without place l = take place l ++ drop (suc place) l

-- no corner: 0 in every field
abbrev pub no_corner : Corner
no_corner = record { x = zero; y = zero; strength = zero; neighbours = 0 }

-- the first n corners without the one at a place; the last of their places, which is freed, becomes 0 in every slice,
-- and the buffer after it is unchanged
unfoldable pub without_corner : ℕ → ℕ → Slices → Slices
without_corner place n b = front_corners (without place (corners_of b n) ++ (no_corner ∷ [])) b
