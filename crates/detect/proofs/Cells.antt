-- Cells of a map that can be searched: where its rows lie in the list. Assumes nothing.
use Rattle.std.proofs.Common.{ℕ, ◌+◌, ◌-◌, ◌*◌, ◌<◌, ◌≤◌, List, length, mul-le-mul_right, suc-mul, mul_comm, mul-le-mul, arith}
use lib.Ieee.{Float}
use Rattle.lists.specs.Limits.{largest_side, largest_map}
use Rattle.detect.specs.declared.Search.{Search}
use Rattle.detect.specs.Internal.{Inside}
use Rattle.detect.specs.Internal.{place, Searchable}

module _ (m : List Float) (s : Search) (k : Searchable m s) (y : ℕ) (h : y < s.h) where
  -- a row up to column b
  pub row_in : (b : ℕ) → b ≤ s.w → y * s.w + b ≤ length m
  row_in b l = omega (arith, k.size, mul_comm s.w s.h, mul-le-mul_right s.w h, suc-mul y s.w)

  -- and its first place, as a number
  pub row_small : y * s.w ≤ largest_map
  row_small = let l : y ≤ largest_side = omega (arith, k.high) in
      let e : y * s.w ≤ largest_side * largest_side = mul-le-mul l k.wide in
      omega arith

-- a cell inside the border
module _ (m : List Float) (s : Search) (k : Searchable m s) (x y : ℕ) (i : Inside s.w s.h s.border (place x y)) where
  pub cell_in : y * s.w + x < length m
  cell_in = omega (arith, row_in m s k y (omega (arith, i.bottom)) (x + 1) (omega (arith, i.right)))

  pub cell-small : y * s.w + x ≤ 16781312
  cell-small = omega (arith, row_small m s k y (omega (arith, i.bottom)), i.right, k.wide)

-- there are no more cells inside the border than a map of 4,096 by 4,096 has
pub inside-few : (s : Search) → s.w ≤ largest_side → s.h ≤ largest_side → (s.w - 2 * s.border) * (s.h - 2 * s.border) ≤ largest_map
inside-few s wide high =
    let a : s.w - 2 * s.border ≤ largest_side = omega arith in
    let b : s.h - 2 * s.border ≤ largest_side = omega arith in
    let e : (s.w - 2 * s.border) * (s.h - 2 * s.border) ≤ largest_side * largest_side = mul-le-mul a b in
    omega arith
