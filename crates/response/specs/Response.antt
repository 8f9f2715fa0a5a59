-- The ChESS response of a cell, from the ChESS paper's SR, DR and means, in the f32 operations of
-- `chess_response_at_u8` and in their order.
use Rattle.std.specs.Prelude.{ℕ, ◌+◌, ◌-◌, ◌<◌, Bool, false, cond, ◌&&◌, List, leb, ltb, pos, get_or, Float}
use Rattle.std.specs.Float.{fin, binary32}
use Rattle.std.specs.Float.Ieee.{sub, mul, div}
use Rattle.float32.specs.Float32.{zero, abs, float_of}
use Rattle.float32.specs.Value.{dist, total}
use Rattle.lists.specs.Tab.{tab, pixel}
use Rattle.ring.specs.Ring.{Ring, dx, dy}

-- every number of a list is a byte, as those of an image are
abbrev pub Bytes : List ℕ → Type 0
Bytes img = (i : ℕ) → get_or img i 0 < 256

-- ---- whole numbers, from sixteen samples s

-- SR: the sum over k = 0..3 of |s(k) + s(k+8) - s(k+4) - s(k+12)|
abbrev pub sr_of : List ℕ → ℕ
sr_of s = total (λ k. dist (get_or s k 0 + get_or s (k + 8) 0) (get_or s (k + 4) 0 + get_or s (k + 12) 0)) 4

-- DR: the sum over k = 0..7 of |s(k) - s(k+8)|
abbrev pub dr_of : List ℕ → ℕ
dr_of s = total (λ k. dist (get_or s k 0) (get_or s (k + 8) 0)) 8

-- the sum of all sixteen
abbrev pub ring_sum_of : List ℕ → ℕ
ring_sum_of s = total (λ k. get_or s k 0) 16

-- ---- for a cell of an image w wide

-- the samples of the ring around a cell
unfoldable pub samples : List ℕ → ℕ → Ring → ℕ → ℕ → List ℕ
samples img w t x y = tab 16 (λ k. pixel img w (x - t.radius + dx t k) (y - t.radius + dy t k))

-- the sum of the cross: the cell and its neighbours above, below, right and left
abbrev pub cross_of : List ℕ → ℕ → ℕ → ℕ → ℕ
cross_of img w x y =
    pixel img w x y + pixel img w x (y - 1) + pixel img w x (y + 1) + pixel img w (x + 1) y + pixel img w (x - 1) y

-- ---- floats

-- 16.0 and 5.0
abbrev pub sixteen : Float
sixteen = fin false 1 (pos 4)

abbrev pub five : Float
five = fin false 5 (pos 0)

abbrev pub ring_mean : ℕ → Float
ring_mean sum = div binary32 (float_of sum) sixteen

abbrev pub cross_mean : ℕ → Float
cross_mean cross = div binary32 (float_of cross) five

-- SR - DR - 16 |ring mean - cross mean|
unfoldable pub response_of : ℕ → ℕ → ℕ → ℕ → Float
response_of sr dr sum cross =
    sub binary32 (sub binary32 (float_of sr) (float_of dr))
    (mul binary32 sixteen (abs (sub binary32 (ring_mean sum) (cross_mean cross))))

-- the response of a cell whose ring lies in the image
unfoldable pub response : List ℕ → ℕ → Ring → ℕ → ℕ → Float
unfolding samples response_of
response img w t x y = let s = samples img w t x y in
    response_of (sr_of s) (dr_of s) (ring_sum_of s) (cross_of img w x y)

-- column x and row y lie at least r from each edge of w by h
abbrev pub is_within : ℕ → ℕ → ℕ → ℕ → ℕ → Bool
is_within r w h x y = leb r x && (ltb (x + r) w && (leb r y && ltb (y + r) h))

-- the cell is not within a ring radius of the image's edge: the ring's square around it lies in the image
abbrev pub inside : ℕ → ℕ → Ring → ℕ → ℕ → Bool
inside w h t x y = is_within t.radius w h x y

-- the response of any cell: 0 within a ring radius of the edge
unfoldable pub response_at : List ℕ → ℕ → ℕ → Ring → ℕ → ℕ → Float
unfolding response
response_at img w h t x y = cond (inside w h t x y) (response img w t x y) zero
