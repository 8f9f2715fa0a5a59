-- box-image-pyramid's pyramid.rs: `downsample_2x_box_scalar` and `build_pyramid`.
use Rattle.std.specs.Prelude.{ℕ, zero, suc, ◌+◌, ◌-◌, ◌*◌, ◌/◌, ◌%◌, ◌^◌, ◌≤◌, ◌≡◌, false, cond, ◌||◌, List, [], ◌∷◌}
use Rattle.std.specs.Prelude.{ltb, eqb, pos, negsuc, neg_ℤ, get_or, Float}
use Rattle.std.specs.Float.{fin, binary32}
use Rattle.std.specs.Float.Ieee.{mul}
use Rattle.lists.specs.Limits.{largest_side}
use Rattle.lists.specs.Tab.{tab, grid}
use Rattle.pyramid_levels.specs.Levels.{level_side, level_count}
use Rattle.pyramid.specs.Pyramid.{level_pixels}
use Rattle.accuracy.specs.Accurate.{Bytes}

-- a `PyramidLevel`
pub record LevelRs : Type 0 where
  pub w : ℕ
  pub h : ℕ
  pub pixels : List ℕ
  pub scale : Float

-- `((sum + 2) >> 2) as u8`
abbrev pub box_rs : ℕ → ℕ → ℕ → ℕ → ℕ
box_rs p00 p01 p10 p11 = (p00 + p01 + p10 + p11 + 2) / 2 ^ 2 % 256

-- column x of row y of `downsample_2x_box_scalar`
abbrev pub half_rs : List ℕ → ℕ → ℕ → ℕ → ℕ
half_rs src w x y =
    let row0 = y * 2 * w in
    let row1 = row0 + w in
    let sx = x * 2 in
    box_rs (get_or src (row0 + sx) 0) (get_or src (row0 + (sx + 1)) 0) (get_or src (row1 + sx) 0)
    (get_or src (row1 + (sx + 1)) 0)

-- 1.0 and 0.5
abbrev pub one32 : Float
one32 = fin false 1 (pos 0)

abbrev pub half32 : Float
half32 = fin false 1 (negsuc 0)

-- one iteration of the loop over `level_idx`: the next level
unfoldable pub next_rs : LevelRs → LevelRs
next_rs l =
    let w2 = l.w / 2 in
    let h2 = l.h / 2 in
    record { w = w2; h = h2; pixels = grid w2 h2 (half_rs l.pixels l.w); scale = mul binary32 l.scale half32 }

-- at most n iterations from a level on
unfoldable pub loop_rs : ℕ → ℕ → LevelRs → List LevelRs
loop_rs zero least l = []
loop_rs (suc n) least l =
    let w2 = l.w / 2 in
    let h2 = l.h / 2 in
    cond (eqb w2 0 || eqb h2 0 || ltb w2 least || ltb h2 least) [] (next_rs l ∷ loop_rs n least (next_rs l))

-- `build_pyramid`
unfoldable pub pyramid_rs : List ℕ → ℕ → ℕ → ℕ → ℕ → List LevelRs
pyramid_rs base w h count least =
    let first : LevelRs = record { w = w; h = h; pixels = base; scale = one32 } in
    cond (eqb count 0 || ltb w least || ltb h least) [] (first ∷ loop_rs (count - 1) least first)

-- "Level k has scale 2^-k"
abbrev pub scale_of : ℕ → Float
scale_of k = fin false 1 (neg_ℤ (pos k))

abbrev pub level_of : List ℕ → ℕ → ℕ → ℕ → LevelRs
level_of base w h k =
    record { w = level_side w k; h = level_side h k; pixels = level_pixels base w h k; scale = scale_of k }

abbrev pub PyramidAsPublished : Type 0
PyramidAsPublished =
    (base : List ℕ) (w h count least : ℕ) → Bytes base → w ≤ largest_side
    → pyramid_rs base w h count least ≡ tab (level_count w h count least) (level_of base w h)
