-- Cells: the sums of a cell are those of bytes, so its response is accurate, whatever the ring; and how large it is. Assumes nothing.
use mathlib.Core.Path.{◌≡◌}
use mathlib.Core.Bool.{Bool, true, false, cond}
use mathlib.Core.List.{List}
use Prim.Native.Nat.{ℕ, ◌+◌, ◌-◌, ◌*◌, ◌<◌, ◌≤◌}
use native.Mathlib.Nat.{le_trans}
use native.Mathlib.Omega.{arith}
use lib.Dec.{T, lit<}
use lib.IntN.{ℤ, pos, sub_ℕ}
use lib.ListN.{get_or}
use lib.Ieee.{Float, binary32, fits, le}
use lib.Ieee.Fits.{sub-fits, cond-fits}
use Rattle.std.specs.Prelude.{Result, Ok}
use Rattle.lists.specs.Places.{All}
use Rattle.lists.specs.declared.refusal.Refusal.{Refusal}
use Rattle.lists.proofs.Tab.{get_d-tab-any}
use Rattle.float32.specs.Float32.{zero, float_of}
use Rattle.float32.specs.Value.{IsWhole, plus_part, minus_part}
use Rattle.float32.proofs.Sums.{total-bound}
use Rattle.float32.proofs.Values.{of-HasValue, of_int-value}
use Rattle.ring.specs.Ring.{Ring}
use Rattle.response.specs.Response.{samples, sr_of, dr_of, ring_sum_of, cross_of, response_of, inside, response, response_at}
use Rattle.response.specs.Patch.{View, map_width, map_height, cells, Patched}
use Rattle.response.specs.Exact.{credit, debit, fifths_at, fifths_in}
use Rattle.response.specs.declared.Patch.{Patch}
use Rattle.response.proofs.Map.{cells_at, cells-all, filled, cell_at}
use Rattle.accuracy.specs.Accurate.{Accurate, Bytes}
use Rattle.accuracy.proofs.Integers.{plus-le, minus-le, less-parts}
use Rattle.accuracy.proofs.Error.{InRange}
use Rattle.accuracy.proofs.Judged.{response_accurate, zero-accurate, at-most-whole}

-- ---- the sums of bytes
module _ (s : List ℕ) (bytes : (k : ℕ) → get_or s k 0 < 256) where
  sr-le : sr_of s ≤ 2040
  sr-le = total-bound _ 510 4 (λ k h. omega (arith, bytes k, bytes (k + 8), bytes (k + 4), bytes (k + 12)))

  dr-le : dr_of s ≤ 2040
  dr-le = total-bound _ 255 8 (λ k h. omega (arith, bytes k, bytes (k + 8)))

  sum-le : ring_sum_of s ≤ 4080
  sum-le = total-bound _ 255 16 (λ k h. omega (arith, bytes k))

module _ (img : List ℕ) (w : ℕ) (t : Ring) (x y : ℕ) (bytes : Bytes img) where
  sample-lt : (k : ℕ) → get_or (samples img w t x y) k 0 < 256
  unfolding samples
  sample-lt k = get_d-tab-any (λ (v : ℕ). v < 256) 0 (lit< tt) _ (λ i. bytes _) 16 k

  cross-le : cross_of img w x y ≤ 1275
  cross-le =
      omega (arith, bytes (y * w + x), bytes ((y - 1) * w + x), bytes ((y + 1) * w + x), bytes (y * w + (x + 1)), bytes (y * w + (x - 1)))

  in-range : InRange (sr_of (samples img w t x y)) (dr_of (samples img w t x y)) (ring_sum_of (samples img w t x y)) (cross_of img w x y)
  in-range =
      record {
        sr_small = sr-le (samples img w t x y) sample-lt;
        dr_small = dr-le (samples img w t x y) sample-lt;
        ring-small = sum-le (samples img w t x y) sample-lt;
        cross_small = cross-le;
      }

-- ---- each cell
either : (b : Bool) (x : Float) (E : ℤ) → Accurate x E → Accurate (cond b x zero) (cond b E (pos 0))
either true x E a = a
either false x E a = zero-accurate

pub cell-accurate : (img : List ℕ) (w h : ℕ) (t : Ring) (x y : ℕ) → Bytes img
    → Accurate (response_at img w h t x y) (fifths_at img w h t x y)
unfolding response_at response fifths_at
cell-accurate img w h t x y bytes = either (inside w h t x y) _ _ (response_accurate _ _ _ _ (in-range img w t x y bytes))

-- in a map
pub map-accurate : (v : View) → Bytes v.img → (i j : ℕ) (d : Float) → i < map_width v → j < map_height v
    → Accurate (get_or (cells v) (j * map_width v + i) d) (fifths_in v i j)
map-accurate v bytes i j d p q = rw (cells_at v i j d p q) (cell-accurate v.img v.w v.h v.ring _ _ bytes)

-- in the buffer e that `chess_response_u8_patch` leaves
pub patch-accurate : (v : View) (radius : ℕ) (d e : List Float) (r : Result Patch Refusal) (pw ph : ℕ) → Patched v radius d r e
    → r ≡ Ok (record { w = pw; h = ph }) → Bytes v.img
    → (i j : ℕ) (z : Float) → i < pw → j < ph → Accurate (get_or e (j * pw + i) z) (fifths_in v i j)
patch-accurate v radius d e r pw ph p c bytes i j z a b =
    rw (cell_at v d e pw ph (filled v radius d e r p pw ph c) i j z a b) (cell-accurate v.img v.w v.h v.ring _ _ bytes)

-- ---- sizes
-- at most 2040 exactly
pub fifths-small : (img : List ℕ) (w h : ℕ) (t : Ring) (x y : ℕ) → Bytes img → plus_part (fifths_at img w h t x y) ≤ 10200
unfolding fifths_at
fifths-small img w h t x y bytes =
    let c : credit (sr_of (samples img w t x y)) ≤ 10200 = omega (arith, (in-range img w t x y bytes).sr_small) in
    pick (inside w h t x y) _ _ c
  where
    pick : (b : Bool) (c d : ℕ) → c ≤ 10200 → plus_part (cond b (sub_ℕ c d) (pos 0)) ≤ 10200
    pick true c d h = le_trans (plus-le c d) h
    pick false c d h = omega arith

-- and at least -6120
pub fifths-deep : (img : List ℕ) (w h : ℕ) (t : Ring) (x y : ℕ) → Bytes img → minus_part (fifths_at img w h t x y) ≤ 30600
unfolding fifths_at
fifths-deep img w h t x y bytes =
    let i = in-range img w t x y bytes in
    let d : debit (dr_of (samples img w t x y)) (ring_sum_of (samples img w t x y)) (cross_of img w x y) ≤ 30600 = omega
    (arith, i.dr_small, i.ring-small, i.cross_small) in
    pick (inside w h t x y) _ _ d
  where
    pick : (b : Bool) (c d : ℕ) → d ≤ 30600 → minus_part (cond b (sub_ℕ c d) (pos 0)) ≤ 30600
    pick true c d h = le_trans (minus-le c d) h
    pick false c d h = omega arith

-- the float is one of binary32, and at most 8192
pub cell-fits : (img : List ℕ) (w h : ℕ) (t : Ring) (x y : ℕ) → T (fits binary32 (response_at img w h t x y))
unfolding response_at response response_of fits
cell-fits img w h t x y = cond-fits binary32 (inside w h t x y) _ zero (sub-fits binary32 _ _) tt

pub cell-small : (img : List ℕ) (w h : ℕ) (t : Ring) (x y : ℕ) → Bytes img → T (le (response_at img w h t x y) (float_of 8192))
cell-small img w h t x y bytes =
    (at-most-whole (float_of 8192) (response_at img w h t x y) 8192 (fifths_at img w h t x y) top (cell-accurate img w h t x y bytes)).1
    (λ l. let no : ⊥ = omega (arith, (less-parts (pos 40960) (fifths_at img w h t x y)).0 l, fifths-small img w h t x y bytes) in no)
  where
    top : IsWhole (float_of 8192) 8192
    top = of-HasValue (float_of 8192) false 8192 1 (of_int-value binary32 8192 (lit< tt))

-- each of a map
pub map-small : (v : View) → Bytes v.img → All (λ x. T (fits binary32 x) × T (le x (float_of 8192))) (cells v)
map-small v bytes =
    cells-all (λ x. T (fits binary32 x) × T (le x (float_of 8192))) v
    (λ i j p q. (cell-fits v.img v.w v.h v.ring _ _, cell-small v.img v.w v.h v.ring _ _ bytes))
