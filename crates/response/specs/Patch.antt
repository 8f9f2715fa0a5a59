-- The response map of a box of an image: the clipped box, the refusals, the answer and the buffer.
use Rattle.std.specs.Prelude.{ℕ, ◌+◌, ◌*◌, min, ◌-◌, ◌≡◌, cond, not, List, [], ◌∷◌, ltb, eqb, length, Float, Result}
use Rattle.float32.specs.Float32.{zero}
use Rattle.lists.specs.Tab.{grid}
use Rattle.lists.specs.Buffer.{front}
use Rattle.lists.specs.declared.refusal.Refusal.{Refusal}
use Rattle.lists.specs.Refusals.{lowest, number_of, values_by, values_unless, is_large, is_misfit, judged, result_or}
use Rattle.ring.specs.Ring.{Ring, is_ring}
use Rattle.response.specs.Response.{is_within, response_at}
use Rattle.response.specs.declared.Patch.{Patch}

-- what a map shows: columns x0 up to, not including, x1 of rows y0 up to y1 of an image of w by h, with a ring
pub record View : Type 0 where
  pub img : List ℕ
  pub w : ℕ
  pub h : ℕ
  pub ring : Ring
  pub x0 : ℕ
  pub y0 : ℕ
  pub x1 : ℕ
  pub y1 : ℕ

-- the whole image as one box
abbrev pub whole : List ℕ → ℕ → ℕ → Ring → View
whole img w h t = record { img = img; w = w; h = h; ring = t; x0 = 0; y0 = 0; x1 = w; y1 = h }

-- ---- the box clipped to the image

-- how many of the columns, or rows, a up to b lie among n
abbrev pub side_of : ℕ → ℕ → ℕ → ℕ
side_of n a b = min b n - min a n

-- a side, or 0 if the other is 0: an empty box gives a map of 0 by 0
abbrev pub besides : ℕ → ℕ → ℕ
besides own other = cond (eqb other 0) 0 own

abbrev pub map_width : View → ℕ
map_width v = besides (side_of v.w v.x0 v.x1) (side_of v.h v.y0 v.y1)

abbrev pub map_height : View → ℕ
map_height v = besides (side_of v.h v.y0 v.y1) (side_of v.w v.x0 v.x1)

-- the image's column and row of the map's first cell
abbrev pub left : View → ℕ
left v = min v.x0 v.w

abbrev pub top : View → ℕ
top v = min v.y0 v.h

-- the response of the map's cell of column i and row j, and all of them in row order
abbrev pub response_in : View → ℕ → ℕ → Float
response_in v i j = response_at v.img v.w v.h v.ring (left v + i) (top v + j)

unfoldable pub cells : View → List Float
cells v = grid (map_width v) (map_height v) (response_in v)

-- RULES 3.9: the response of the cells that lie at least `margin` cells from each edge of the map, and 0 in the others
abbrev pub inner_in : View → ℕ → ℕ → ℕ → Float
inner_in v margin i j = cond (is_within margin (map_width v) (map_height v) i j) (response_in v i j) zero

unfoldable pub inner_cells : View → ℕ → List Float
inner_cells v margin = grid (map_width v) (map_height v) (inner_in v margin)

-- ---- what a call answers and leaves, for a ring's radius as given and a buffer with a given number of places

-- 1: a side above the largest; 2: not w * h pixels; 3: a ring that is not 5 or 10; 8: fewer places than cells
unfoldable pub refusal_of : View → ℕ → ℕ → ℕ
refusal_of v radius places =
    lowest
    ((is_large v.w v.h, 1)
    ∷ (is_misfit (length v.img) v.w v.h, 2)
    ∷ (not (is_ring radius), 3)
    ∷ (ltb places (map_height v * map_width v), 8)
    ∷ [])

-- the values of an answer (RULES 3.8): the map's sides
abbrev pub values_of : Result Patch Refusal → List ℕ
values_of = values_by (λ m. m.w ∷ m.h ∷ [])

-- what is promised about a map of v with the cells cs: r is the answer, and the buffer d becomes e: the cells at its
-- start and the rest unchanged; if the call is refused, all of it unchanged
pub record MapMade (v : View) (cs : List Float) (radius : ℕ) (d : List Float) (r : Result Patch Refusal)
    (e : List Float) : Type 0 where
  pub answer : r ≡ judged (refusal_of v radius (length d)) (record { w = map_width v; h = map_height v })
  pub number : number_of r ≡ refusal_of v radius (length d)
  pub values : values_of r ≡ values_unless (refusal_of v radius (length d)) (map_width v ∷ map_height v ∷ [])
  pub buffer : e ≡ result_or (refusal_of v radius (length d)) (front cs d) d

-- the promise of `chess_response_u8_patch`: all cells
abbrev pub Patched : View → ℕ → List Float → Result Patch Refusal → List Float → Type 0
Patched v = MapMade v (cells v)

-- and of `inner_patch`: those inside a margin (RULES 3.9)
abbrev pub InnerPatched : View → ℕ → ℕ → List Float → Result Patch Refusal → List Float → Type 0
InnerPatched v margin = MapMade v (inner_cells v margin)
