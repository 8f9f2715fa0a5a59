-- The exact response of a cell, in whole fifths.
use Rattle.std.specs.Prelude.{ℕ, ◌+◌, ◌*◌, cond, List, ℤ, pos}
use Rattle.std.proofs.Math.IntN.{sub_ℕ}
use Rattle.float32.specs.Value.{dist}
use Rattle.ring.specs.Ring.{Ring}
use Rattle.response.specs.Response.{sr_of, dr_of, ring_sum_of, samples, cross_of, inside}
use Rattle.response.specs.Patch.{View, left, top}

-- 5 (SR - DR) - |5 ring sum - 16 cross sum|, as a difference of two naturals
abbrev pub credit : ℕ → ℕ
credit sr = 5 * sr

abbrev pub debit : ℕ → ℕ → ℕ → ℕ
debit dr sum cross = 5 * dr + dist (5 * sum) (16 * cross)

abbrev pub fifths : ℕ → ℕ → ℕ → ℕ → ℤ
fifths sr dr sum cross = sub_ℕ (credit sr) (debit dr sum cross)

-- the exact value of any cell: 0 within a ring radius of the edge
unfoldable pub fifths_at : List ℕ → ℕ → ℕ → Ring → ℕ → ℕ → ℤ
unfolding samples
fifths_at img w h t x y =
    let s = samples img w t x y in
    cond (inside w h t x y) (fifths (sr_of s) (dr_of s) (ring_sum_of s) (cross_of img w x y)) (pos 0)

-- and of the cell of column i and row j of a map
abbrev pub fifths_in : View → ℕ → ℕ → ℤ
fifths_in v i j = fifths_at v.img v.w v.h v.ring (left v + i) (top v + j)
