-- response.rs: `chess_response_at_u8` and `chess_response_u8_patch` without SIMD.
use Rattle.std.specs.Prelude.{ℕ, ◌+◌, ◌-◌, ◌*◌, ◌<◌, ◌≤◌, min, max, ◌≡◌, cond, ◌&&◌, ◌||◌, List, [], leb, ltb, ℤ, pos}
use Rattle.std.specs.Prelude.{nat_abs, ◌+ℤ◌, ◌-ℤ◌, get_or, Float}
use Rattle.std.specs.Float.{binary32}
use Rattle.std.specs.Float.Ieee.{add, sub, mul, div}
use Rattle.lists.specs.Limits.{largest_side}
use Rattle.lists.specs.Tab.{grid}
use Rattle.float32.specs.Float32.{zero, abs, float_of}
use Rattle.float32.specs.Value.{total}
use Rattle.ring.specs.Ring.{Ring, IsRing, ring_of}
use Rattle.response.specs.Response.{sixteen, five, response}
use Rattle.response.specs.Patch.{View, whole, map_width, map_height, cells}
use Rattle.accuracy.specs.Accurate.{Bytes}
use Rattle.published.specs.Rust.{as_usize, less_usize}
use Rattle.published.specs.RingRs.{Offset, ring_offsets, ring_radius, offsets_of}

-- ---- `chess_response_at_u8`

-- `img[(y as usize) * w + (x as usize)]`
abbrev pub pixel_rs : List ℕ → ℕ → ℤ → ℤ → ℕ
pixel_rs img w x y = get_or img (as_usize y * w + as_usize x) 0

-- `s[k]`
abbrev pub sample_rs : List ℕ → ℕ → ℤ → ℤ → List Offset → ℕ → ℕ
sample_rs img w x y ring k = let d = get_or ring k (pos 0, pos 0) in pixel_rs img w (x +ℤ d.0) (y +ℤ d.1)

-- `sr`, `dr` and `sum_ring` of the samples s
abbrev pub sr_rs : (ℕ → ℕ) → ℕ
sr_rs s = total (λ k. nat_abs ((pos (s k) +ℤ pos (s (k + 8))) -ℤ (pos (s (k + 4)) +ℤ pos (s (k + 12))))) 4

abbrev pub dr_rs : (ℕ → ℕ) → ℕ
dr_rs s = total (λ k. nat_abs (pos (s k) -ℤ pos (s (k + 8)))) 8

abbrev pub sum_rs : (ℕ → ℕ) → ℕ
sum_rs s = total s 16

unfoldable pub response_rs : List ℕ → ℕ → ℤ → ℤ → List Offset → Float
response_rs img w x y ring =
    let sr = sr_rs (sample_rs img w x y ring) in
    let dr = dr_rs (sample_rs img w x y ring) in
    let mu-n = div binary32 (float_of (sum_rs (sample_rs img w x y ring))) sixteen in
    let c = float_of (pixel_rs img w x y) in
    let n = float_of (pixel_rs img w x (y -ℤ pos 1)) in
    let s0 = float_of (pixel_rs img w x (y +ℤ pos 1)) in
    let e = float_of (pixel_rs img w (x +ℤ pos 1) y) in
    let w0 = float_of (pixel_rs img w (x -ℤ pos 1) y) in
    let mu-l = div binary32 (add binary32 (add binary32 (add binary32 (add binary32 c n) s0) e) w0) five in
    let mr = abs (sub binary32 mu-n mu-l) in
    sub binary32 (sub binary32 (float_of sr) (float_of dr)) (mul binary32 sixteen mr)

-- with any ring table, for a cell whose ring does not leave the image on the left or at the top
abbrev pub ResponseAsPublished : Type 0
ResponseAsPublished =
    (img : List ℕ) (w : ℕ) (t : Ring) (x y : ℕ) → IsRing t → t.radius ≤ x → t.radius ≤ y → Bytes img
    → response_rs img w (pos x) (pos y) (offsets_of t) ≡ response img w t x y

-- ---- `chess_response_u8_patch`

-- a `ResponseMap`
pub record MapRs : Type 0 where
  pub w : ℕ
  pub h : ℕ
  pub cells : List Float

-- the value in column px and row py of the patch of columns x0 up to x1 from row y0 on, all of them in the image
unfoldable pub cell_rs : List ℕ → ℕ → ℕ → ℕ → ℕ → ℕ → ℕ → ℕ → ℕ → Float
cell_rs img w h radius x0 x1 y0 px py =
    let r = ring_radius radius in
    let gx1 = less_usize w r in
    let gy1 = less_usize h r in
    let gy = y0 + py in
    let row-gx0 = max x0 r in
    let row-gx1 = min x1 gx1 in
    cond (ltb gy r || leb gy1 gy) zero
    (cond (leb row-gx1 row-gx0) zero
    (cond (leb (row-gx0 - x0) px && ltb px (row-gx1 - x0))
    (response_rs img w (pos (x0 + px)) (pos gy) (ring_offsets radius)) zero))

unfoldable pub patch_rs : List ℕ → ℕ → ℕ → ℕ → ℕ → ℕ → ℕ → ℕ → MapRs
patch_rs img w h radius roi-x0 roi-y0 roi-x1 roi-y1 =
    let x0 = min roi-x0 w in
    let y0 = min roi-y0 h in
    let x1 = min roi-x1 w in
    let y1 = min roi-y1 h in
    cond (leb x1 x0 || leb y1 y0)
    (record { w = 0; h = 0; cells = [] })
    (record { w = x1 - x0; h = y1 - y0; cells = grid (x1 - x0) (y1 - y0) (cell_rs img w h radius x0 x1 y0) })

-- the map of a box by the definitions
abbrev pub map_of : View → MapRs
map_of v = record { w = map_width v; h = map_height v; cells = cells v }

-- for sides that are not refused, thinner than the ring or not
abbrev pub PatchAsPublished : Type 0
PatchAsPublished =
    (img : List ℕ) (w h radius x0 y0 x1 y1 : ℕ) → Bytes img → w ≤ largest_side → h ≤ largest_side
    → patch_rs img w h radius x0 y0 x1 y1
    ≡ map_of (record { img = img; w = w; h = h; ring = ring_of radius; x0 = x0; y0 = y0; x1 = x1; y1 = y1 })

-- ---- `chess_response_u8` of a whole image, by `compute_response_sequential`
unfoldable pub whole_rs : List ℕ → ℕ → ℕ → ℕ → List Float
whole_rs img w h radius =
    let r = ring_radius radius in
    let x1 = w - r in
    let y1 = h - r in
    grid w h (λ x y.
    cond (leb r y && ltb y y1) (cond (leb r x && ltb x x1)
    (response_rs img w (pos x) (pos y) (ring_offsets radius)) zero) zero)

-- "The whole image is one box", wherever the Rust has an answer. It panics with fewer rows than the radius, and when it
-- cuts a row narrower than twice the radius. It cuts rows only if there are more than twice the radius; otherwise
-- w - r, which may be below 0, is not used. (A build with overflow checks panics there too.)
abbrev pub WholeAsPublished : Type 0
WholeAsPublished =
    (img : List ℕ) (w h radius : ℕ) → Bytes img → ring_radius radius ≤ h
    → (2 * ring_radius radius < h → 2 * ring_radius radius ≤ w)
    → whole_rs img w h radius ≡ cells (whole img w h (ring_of radius))
