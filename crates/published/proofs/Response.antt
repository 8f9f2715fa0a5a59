-- The response of a cell and the map of a box are the published ones: offsets from the centre and differences are integers there, the cross
-- is summed in floats, and a row is cut where the ring leaves the image. Assumes nothing.
use mathlib.Core.Path.{◌≡◌, refl, sym, ap₂, ◌∙◌}
use mathlib.Core.Bool.{Bool, true, false, cond, ◌&&◌, ◌||◌}
use mathlib.Core.List.{List, []}
use Prim.Native.Nat.{ℕ, zero, suc, ◌+◌, ◌-◌, ◌≤◌, ◌<◌, min, max}
use native.Mathlib.Decide.{dec_lt}
use native.Mathlib.Omega.{arith}
use lib.Dec.{ltb, leb, eqb}
use lib.IntN.{pos, nat_abs, sub_ℕ, ◌+ℤ◌, ◌-ℤ◌}
use lib.ListN.{length, get_or, length-map, get_or-map}
use lib.Ieee.{Float, binary32, add}
use borrow.Author.Tests.{lt-ltb, le-ltb, le-leb, lt-leb, eq-eqb, ne_eqb, eqb-true}
use Rattle.lists.specs.Limits.{largest_side}
use Rattle.lists.specs.Tab.{grid, pixel}
use Rattle.lists.proofs.Tests.{and_none}
use Rattle.lists.proofs.Tab.{get_d_any, get_d-tab, grid-ext}
use Rattle.float32.specs.Float32.{zero as zero32, float_of}
use Rattle.float32.specs.Value.{dist, total}
use Rattle.float32.proofs.Approx.{add-whole}
use Rattle.ring.specs.Ring.{Ring, IsRing, dx, dy, ring_of}
use Rattle.ring.proofs.Table.{ring_of-is}
use Rattle.ring.proofs.Places.{radius-pos}
use Rattle.response.specs.Response.{samples, sr_of, dr_of, ring_sum_of, response_of, response, response_at}
use Rattle.response.specs.Patch.{cells}
use Rattle.response.proofs.Inside.{out-left, out-right, out-above, out_below, at-outside, at-inside}
use Rattle.accuracy.specs.Accurate.{Bytes}
use Rattle.accuracy.proofs.Error.{whole}
use Rattle.published.specs.Rust.{as_usize, less_usize}
use Rattle.published.specs.RingRs.{ring_offsets, ring_radius, from_centre, offsets_of}
use Rattle.published.specs.ResponseRs.{MapRs, sample_rs, sr_rs, dr_rs, sum_rs, response_rs, cell_rs, patch_rs, ResponseAsPublished}
use Rattle.published.specs.ResponseRs.{PatchAsPublished}
use Rattle.published.proofs.Integers.{sub-high, minus_is, abs_is, plus-is}
use Rattle.published.proofs.Ring.{ring-as-published}

-- ---- the samples
total-alike : (f g : ℕ → ℕ) (n : ℕ) → ((k : ℕ) → k < n → f k ≡ g k) → total f n ≡ total g n
unfolding total
total-alike f g zero h = refl
total-alike f g (suc n) h = ap₂ (λ (a b : ℕ). a + b) (total-alike f g n (λ k l. h k (omega arith))) (h n (omega arith))

module _ (img : List ℕ) (w : ℕ) (t : Ring) (x y : ℕ) (is : IsRing t) (left : t.radius ≤ x) (above : t.radius ≤ y) where
  abbrev s : ℕ → ℕ
  s = sample_rs img w (pos x) (pos y) (offsets_of t)

  abbrev s' : ℕ → ℕ
  s' k = get_or (samples img w t x y) k 0

  offset : (k : ℕ) → k < 16 → get_or (offsets_of t) k (pos 0, pos 0) ≡ (sub_ℕ (dx t k) t.radius, sub_ℕ (dy t k) t.radius)
  offset k l =
      let here : k < length t.places = omega (arith, is.sixteen) in
      let near = from_centre t.radius in
      get_d_any (offsets_of t) k (pos 0, pos 0) (near (0, 0)) (rw (length-map t.places near) here)
      ∙ get_or-map near t.places k (0, 0)
      ∙ ap₂ (λ (a b : ℕ). (sub_ℕ a t.radius, sub_ℕ b t.radius))
      (sym (get_or-map (λ (p : ℕ × ℕ). p.0) t.places k (0, 0)))
      (sym (get_or-map (λ (p : ℕ × ℕ). p.1) t.places k (0, 0)))

  place : (c r d : ℕ) → r ≤ c → as_usize (pos c +ℤ sub_ℕ d r) ≡ c - r + d
  place c r d l = rw (plus-is c d r, sub-high (c + d) r (omega arith)) (omega arith)

  sample : (k : ℕ) → k < 16 → s k ≡ s' k
  unfolding samples
  sample k l =
      let here = get_d-tab 16 (λ k. pixel img w (x - t.radius + dx t k) (y - t.radius + dy t k)) k 0 l in
      rw (offset k l, here, place x t.radius (dx t k) left, place y t.radius (dy t k) above)

  difference : (a b c d : ℕ) → a ≡ c → b ≡ d → nat_abs (pos a -ℤ pos b) ≡ dist c d
  difference a b c d p q = rw (p, q, minus_is c d) (abs_is c d)

  two : (j k : ℕ) → j < 16 → k < 16 → s j + s k ≡ s' j + s' k
  two j k p q = ap₂ (λ (a b : ℕ). a + b) (sample j p) (sample k q)

  sr : sr_rs s ≡ sr_of (samples img w t x y)
  sr =
      total-alike _ _ 4 (λ k l. difference _ _ _ _ (two k (k + 8) (omega arith) (omega arith))
      (two (k + 4) (k + 12) (omega arith) (omega arith)))

  dr : dr_rs s ≡ dr_of (samples img w t x y)
  dr = total-alike _ _ 8 (λ k l. difference _ _ _ _ (sample k (omega arith)) (sample (k + 8) (omega arith)))

  sum : sum_rs s ≡ ring_sum_of (samples img w t x y)
  sum = total-alike s s' 16 sample

-- ---- the cross
plus : (a b : ℕ) → a + b ≤ 1275 → add binary32 (float_of a) (float_of b) ≡ float_of (a + b)
plus a b h = add-whole binary32 (float_of a) (float_of b) a b (whole a (omega arith)) (whole b (omega arith))

five-bytes : (c n s e w : ℕ) → c < 256 → n < 256 → s < 256 → e < 256 → w < 256
    → add binary32 (add binary32 (add binary32 (add binary32 (float_of c) (float_of n)) (float_of s)) (float_of e)) (float_of w)
    ≡ float_of (c + n + s + e + w)
five-bytes c n s e w C N S E W =
    rw (plus c n (omega arith), plus (c + n) s (omega arith), plus (c + n + s) e (omega arith)) (plus (c + n + s + e) w (omega arith))

-- ---- a cell whose ring lies in the image
pub response-as-published : ResponseAsPublished
unfolding response_rs response response_of
response-as-published img w t x y is left above bytes =
    let some = radius-pos t is in
    let in-floats =
    five-bytes (pixel img w x y) (pixel img w x (y - 1)) (pixel img w x (y + 1)) (pixel img w (x + 1) y) (pixel img w (x - 1) y)
    (bytes _) (bytes _) (bytes _) (bytes _) (bytes _) in
    rw (sr img w t x y is left above, dr img w t x y is left above, sum img w t x y is left above)
    (rw (sub-high x 1 (omega arith), sub-high y 1 (omega arith), in-floats))

-- ---- any cell of a patch
module _ (img : List ℕ) (w h radius x0 x1 y0 : ℕ) (bytes : Bytes img) (narrow : w ≤ largest_side) (low : h ≤ largest_side)
    (ends : x1 ≤ w) where
  abbrev t : Ring
  t = ring_of radius

  abbrev r : ℕ
  r = ring_radius radius

  r-is : r ≡ t.radius
  r-is = (ring-as-published radius).1

  module _ (px py : ℕ) (in_row : px < x1 - x0) (in-column : y0 + py < h) where
    abbrev Cell : Type 0
    Cell = cell_rs img w h radius x0 x1 y0 px py ≡ response_at img w h t (x0 + px) (y0 + py)

    too-high : y0 + py < r → Cell
    unfolding cell_rs
    too-high l =
        rw (lt-ltb (y0 + py) r l) (sym (at-outside w h t (x0 + px) (y0 + py) img
        (out-above w h t (x0 + px) (y0 + py) (omega (arith, r-is)))))

    too-low : r ≤ y0 + py → h ≤ y0 + py + r → Cell
    unfolding cell_rs
    too-low l k =
        rw (le-ltb (y0 + py) r l, le-ltb h r (omega arith), le-leb (h - r) (y0 + py) (omega arith))
        (sym (at-outside w h t (x0 + px) (y0 + py) img (out_below w h t (x0 + px) (y0 + py) (omega (arith, r-is)))))

    module _ (top : r ≤ y0 + py) (bottom : y0 + py + r < h) where
      abbrev within : Bool → Bool → Float
      within a b = cond a zero32 (cond b (response_rs img w (pos (x0 + px)) (pos (y0 + py)) (ring_offsets radius)) zero32)

      abbrev first : ℕ
      first = max x0 r

      abbrev past : ℕ
      past = min x1 (less_usize w r)

      row_is : cell_rs img w h radius x0 x1 y0 px py ≡ within (leb past first) (leb (first - x0) px && ltb px (past - x0))
      unfolding cell_rs
      row_is = rw (le-ltb (y0 + py) r top, le-ltb h r (omega arith), lt-leb (h - r) (y0 + py) (omega arith))

      none : (a : Bool) → within a false ≡ zero32
      none true = refl
      none false = refl

      too-left : x0 + px < r → Cell
      too-left l =
          row_is ∙ rw (lt-leb (first - x0) px (omega arith))
          (none (leb past first) ∙ sym (at-outside w h t (x0 + px) (y0 + py) img
          (out-left w h t (x0 + px) (y0 + py) (omega (arith, r-is)))))

      module _ (left : r ≤ x0 + px) where
        usual : less_usize w r ≡ w - r
        usual = rw (le-ltb w r (omega arith))

        too-right : w ≤ x0 + px + r → Cell
        too-right l =
            let past_row : past - x0 ≤ px = rw usual (omega arith) in
            row_is ∙ rw (le-ltb px (past - x0) past_row, and_none (leb (first - x0) px))
            (none (leb past first) ∙ sym (at-outside w h t (x0 + px) (y0 + py) img
            (out-right w h t (x0 + px) (y0 + py) (omega (arith, r-is)))))

        inner : x0 + px + r < w → Cell
        inner l =
            let here : x0 + px < past = rw usual (omega arith) in
            let of-ring : ring_offsets radius ≡ offsets_of t = (ring-as-published radius).0 in
            row_is ∙ rw (
              lt-leb past first (omega arith),
              le-leb (first - x0) px (omega arith),
              lt-ltb px (past - x0) (omega arith),
              of-ring,
            )
            (response-as-published img w t (x0 + px) (y0 + py) (ring_of-is radius) (omega (arith, r-is)) (omega (arith, r-is)) bytes
            ∙ sym (at-inside w h t (x0 + px) (y0 + py) img r (sym r-is) (record { left = left; right = l; above = top; below = bottom })))

    pub cell-as-published : Cell
    cell-as-published =
        elim (dec_lt (y0 + py) r) [
          | yes a ↦ too-high a
          | no b ↦ elim (dec_lt (y0 + py + r) h) [
            | no c ↦ too-low (omega arith) (omega arith)
            | yes d ↦ elim (dec_lt (x0 + px) r) [
              | yes e ↦ too-left (omega arith) d e
              | no f ↦ elim (dec_lt (x0 + px + r) w) [
                | no g ↦ too-right (omega arith) d (omega arith) (omega arith)
                | yes i ↦ inner (omega arith) d (omega arith) i
              ]
            ]
          ]
        ]

-- ---- the map of a box

-- a side is empty exactly where it is 0
no-side : (a b : ℕ) → leb a b ≡ eqb (a - b) 0
no-side a b = elim (dec_lt b a) [
  | yes l ↦ rw (lt-leb a b l) (sym (ne_eqb (a - b) 0 (λ e. let no : ⊥ = omega arith in no)))
  | no g ↦ rw (le-leb a b (omega arith)) (sym (eq-eqb (a - b) 0 (omega arith)))
]

abbrev map_rs : ℕ → ℕ → List Float → MapRs
map_rs w h cs = record { w = w; h = h; cells = cs }

-- both sides 0 where one is
both-sides : (a b : ℕ) (F G : ℕ → ℕ → Float) (p q : Bool) → eqb a 0 ≡ p → eqb b 0 ≡ q → grid a b F ≡ grid a b G
    → cond (p || q) (map_rs 0 0 []) (map_rs a b (grid a b F)) ≡ map_rs (cond q 0 a) (cond p 0 b) (grid (cond q 0 a) (cond p 0 b) G)
unfolding grid
both-sides a b F G true true s t e = refl
both-sides a b F G true false s t e = let z : a ≡ 0 = eqb-true a 0 s in rw z
both-sides a b F G false true s t e = let z : b ≡ 0 = eqb-true b 0 t in rw z
both-sides a b F G false false s t e = rw e

pub patch-as-published : PatchAsPublished
unfolding patch_rs cells
patch-as-published img w h radius x0 y0 x1 y1 bytes narrow low =
    rw (no-side (min x1 w) (min x0 w), no-side (min y1 h) (min y0 h))
    (both-sides (min x1 w - min x0 w) (min y1 h - min y0 h) _ _ (eqb (min x1 w - min x0 w) 0) (eqb (min y1 h - min y0 h) 0) refl refl
    (grid-ext (min x1 w - min x0 w) (min y1 h - min y0 h) _ _
    (λ px py p q. cell-as-published img w h radius (min x0 w) (min x1 w) (min y0 h) bytes narrow low (omega arith) px py p (omega arith))))
