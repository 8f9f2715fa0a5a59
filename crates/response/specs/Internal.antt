-- The contracts of private functions: no public promise depends on them.
use Rattle.std.specs.Prelude.{ℕ, ◌+◌, ◌*◌, ◌/◌, ◌<◌, ◌≤◌, ◌≡◌, false, cond, not, List, [], ◌∷◌, ltb, length, get_or}
use Rattle.std.specs.Prelude.{Float}
use Rattle.lists.specs.Limits.{largest_side, largest_ring}
use Rattle.float32.specs.Float32 as float32
use Rattle.lists.specs.Tab.{tab}
use Rattle.lists.specs.Refusals.{lowest, is_large, is_misfit}
use Rattle.lists.specs.Internal.{Sized}
use Rattle.ring.specs.Ring.{Ring, dx, dy, is_ring, IsRing, ring_of}
use Rattle.response.specs.declared.Held.{Held}
use Rattle.response.specs.declared.rows.Field.{Field}
use Rattle.response.specs.declared.runs.RowSums.{RowSums}
use Rattle.response.specs.Response.{is_within, inside, samples, sr_of, dr_of, ring_sum_of, cross_of, response_at}
use Rattle.response.specs.Response.{response_of}
pub use Rattle.response.specs.Response.{Bytes}

-- the offset of place k of a ring from the corner of the ring's square, in an image w wide
abbrev pub offset_at : Ring → ℕ → ℕ → ℕ
offset_at t w k = dy t k * w + dx t k

-- an image, and a ring of that radius with the offsets of its places in the image
pub record ImageWithOffsets (img : List ℕ) (w h : ℕ) (t : Ring) (radius : ℕ) (off : List ℕ) : Type 0 where
  pub image : Sized (length img) w h
  pub is-ring : IsRing t
  pub own_radius : t.radius ≡ radius
  pub offsets : off ≡ tab 16 (offset_at t w)

-- the square of a radius around the cell lies in the image
pub record Inner (w h radius x y : ℕ) : Type 0 where
  pub left : radius ≤ x
  pub right : x + radius < w
  pub above : radius ≤ y
  pub below : y + radius < h

-- of n cells from column x0 on in row y, exactly those from place a up to place b have their ring in the image
pub record InnerSpan (w h : ℕ) (t : Ring) (radius x0 y n a b : ℕ) : Type 0 where
  pub ordered : a ≤ b
  pub ends : b ≤ n
  pub outer_left : (i : ℕ) → i < a → inside w h t (x0 + i) y ≡ false
  pub inner : (i : ℕ) → a ≤ i → i < b → Inner w h radius (x0 + i) y
  pub outer_right : (i : ℕ) → b ≤ i → i < n → inside w h t (x0 + i) y ≡ false

-- the sums after k pairs, each at most its largest value: one more pair fits
pub record SumsBounded (k : ℕ) (h : Held) : Type 0 where
  pub sr_small : h.sr ≤ 510 * k
  pub dr_small : h.dr ≤ 255 * k
  pub sum_small : h.sum ≤ 510 * k
  pub first_small : (i : ℕ) → get_or h.first i 0 ≤ 510

-- the number for a map of `size` cells, as `refusal_of` gives it for a view
unfoldable pub refusal_for : ℕ → ℕ → ℕ → ℕ → ℕ → ℕ → ℕ
refusal_for pixels w h radius size places =
    lowest ((is_large w h, 1) ∷ (is_misfit pixels w h, 2) ∷ (not (is_ring radius), 3) ∷ (ltb places size, 8) ∷ [])

-- the three sums of sixteen samples
pub record RingSumsOf (s : List ℕ) (sr dr sum : ℕ) : Type 0 where
  pub sr_is : sr ≡ sr_of s
  pub dr_is : dr ≡ dr_of s
  pub sum_is : sum ≡ ring_sum_of s

-- for a cell: SR - DR plus 4096, so that it is a natural number, the ring's sum and the cross's
pub record CellSumsOf (img : List ℕ) (w : ℕ) (t : Ring) (x y balance sum cross : ℕ) : Type 0 where
  pub balance_is : balance + dr_of (samples img w t x y) ≡ sr_of (samples img w t x y) + 4096
  pub sr_small : sr_of (samples img w t x y) ≤ largest_side
  pub dr_small : dr_of (samples img w t x y) ≤ largest_side
  pub sum_is : sum ≡ ring_sum_of (samples img w t x y)
  pub cross_is : cross ≡ cross_of img w x y

-- ---- the pixels of a block, and a map that is filled part by part

-- the most columns, and rows, of cells of a block
abbrev pub block_columns : ℕ
block_columns = 192

abbrev pub block_rows : ℕ
block_rows = 16

-- the most columns, or rows, of a small block
abbrev pub small_side : ℕ
small_side = 16

-- how many more columns, and rows, a tile has than its block: the largest ring's radius on either side
abbrev pub beyond : ℕ
beyond = 2 * largest_ring

-- the places of a row of a large tile, and of a small one
abbrev pub large_row : ℕ
large_row = block_columns + beyond

abbrev pub small_row : ℕ
small_row = small_side + beyond

-- the rows of a tile
abbrev pub tile_rows : ℕ
tile_rows = block_rows + beyond

-- the places of a large tile, and of a small one
abbrev pub large_tile : ℕ
large_tile = large_row * tile_rows

abbrev pub small_tile : ℕ
small_tile = small_row * tile_rows

-- n rounded up to a multiple of 8
abbrev pub eights_of : ℕ → ℕ
eights_of n = (n + 7) / 8 * 8

-- s became t: the n places from `at` on hold what g says, and the others what they held (d stands for what lies past
-- the end)
pub record PlacesWritten {A : Type 0} (d : A) (at n : ℕ) (g : ℕ → A) (s t : List A) : Type 0 where
  pub long : length t ≡ length s
  pub within : (i : ℕ) → i < n → get_or t (at + i) d ≡ g i
  pub before : (i : ℕ) → i < at → get_or t i d ≡ get_or s i d
  pub behind : (i : ℕ) → at + n ≤ i → get_or t i d ≡ get_or s i d

-- s became t, h rows of w places and what follows them: the places of columns a up to b and rows c up to e hold what f
-- says, those that held it before still do, and nothing after the rows changed
pub record Filled {A : Type 0} (d : A) (w h : ℕ) (f : ℕ → ℕ → A) (a b c e : ℕ) (s t : List A) : Type 0 where
  pub long : length t ≡ length s
  pub behind : (i : ℕ) → h * w ≤ i → get_or t i d ≡ get_or s i d
  pub stays : (i j : ℕ) → i < w → j < h → get_or s (j * w + i) d ≡ f i j → get_or t (j * w + i) d ≡ f i j
  pub holds : (i j : ℕ) → i < w → j < h → a ≤ i → i < b → c ≤ j → j < e → get_or t (j * w + i) d ≡ f i j

-- the same with 0 in those places, for any f that is 0 there, and any number of rows that has them
abbrev pub Cleared : ℕ → ℕ → ℕ → ℕ → ℕ → List Float → List Float → Type 0
Cleared w a b c e s t =
    (h : ℕ) (f : ℕ → ℕ → Float) → e ≤ h
    → ((i j : ℕ) → a ≤ i → i < b → c ≤ j → j < e → f i j ≡ float32.zero)
    → Filled float32.zero w h f a b c e s t

-- places for the sums of a row of a block
pub record SumPlaces (r : RowSums) : Type 0 where
  pub balance_long : length r.balance ≡ block_columns
  pub sum_long : length r.sum ≡ block_columns
  pub cross_long : length r.cross ≡ block_columns

-- row y of a tile with rows of s places: the ring of a radius lies in the tile for n cells from column `radius` on
pub record CellsInRow (s radius y n : ℕ) : Type 0 where
  pub own_radius : (ring_of radius).radius ≡ radius
  pub above : radius ≤ y
  pub below : y + radius < tile_rows
  pub few : n ≤ block_columns
  pub across : n + radius + radius ≤ s

-- the sums of the first n cells in row y of a tile whose ring lies in it
pub record CellsSummed (tile : List ℕ) (s : ℕ) (t : Ring) (radius y n : ℕ) (r : RowSums) : Type 0 where
  pub long : SumPlaces r
  pub cells : (i : ℕ) → i < n → CellSumsOf tile s t (radius + i) y (get_or r.balance i 0) (get_or r.sum i 0)
      (get_or r.cross i 0)

-- the response of its cell i
abbrev pub response_from : RowSums → ℕ → Float
response_from r i = response_of (get_or r.balance i 0) 4096 (get_or r.sum i 0) (get_or r.cross i 0)

-- of n cells from place x on, those from the a-th up to the b-th lie at least the radius from either end of w places
-- and at least the margin from either end of the n cells, and no others do
pub record Stretched (w radius x n margin a b : ℕ) : Type 0 where
  pub ordered : a ≤ b
  pub ends : b ≤ n
  pub inner : (i : ℕ) → a ≤ i → i < b → (radius ≤ x + i) × (x + i + radius < w) × (margin ≤ i) × (i + margin < n)
  pub left : (i : ℕ) → i < a → radius ≤ x + i → i < margin
  pub right : (i : ℕ) → b ≤ i → i < n → x + i + radius < w → n ≤ i + margin

-- the map's cells
abbrev pub responses : List ℕ → Field → ℕ → ℕ → Float
responses img f i j = response_at img f.w f.h (ring_of f.radius) (f.x + i) (f.y + j)

-- and those inside a margin, with 0 in the others
abbrev pub inner_responses : List ℕ → Field → ℕ → ℕ → ℕ → Float
inner_responses img f margin i j = cond (is_within margin f.pw f.ph i j) (responses img f i j) float32.zero

-- a map lies in an image with a given number of pixels, and in a buffer with a given number of places
pub record Placed (pixels : ℕ) (f : Field) (places : ℕ) : Type 0 where
  pub image : Sized pixels f.w f.h
  pub own_radius : (ring_of f.radius).radius ≡ f.radius
  pub across : f.x + f.pw ≤ f.w
  pub down : f.y + f.ph ≤ f.h
  pub enough : f.ph * f.pw ≤ places

-- its cells in columns a up to b and rows c up to e have their ring in the image
pub record InnerPart (f : Field) (a b c e : ℕ) : Type 0 where
  pub across : b ≤ f.pw
  pub down : e ≤ f.ph
  pub inner : (i j : ℕ) → a ≤ i → i < b → c ≤ j → j < e → Inner f.w f.h f.radius (f.x + i) (f.y + j)
