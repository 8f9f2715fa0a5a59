-- The pyramid is the published one: halving again and again is dividing by a power of two, a box's mean is a byte, and so is 2^-k the scale
-- of level k. Assumes nothing.
use mathlib.Core.Path.{◌≡◌, refl, sym, ap, ap₂, ◌∙◌}
use mathlib.Core.Bool.{Bool, true, false, cond, ◌||◌}
use mathlib.Core.List.{List, [], ◌∷◌}
use Prim.Native.Nat.{ℕ, zero, suc, ◌+◌, ◌-◌, ◌*◌, ◌/◌, ◌^◌, ◌≤◌, ◌<◌}
use native.Mathlib.Decide.{dec_lt}
use native.Mathlib.Nat.{mul_comm, pow-suc, mod-eq_of_lt, div-eq_of_lt, lt_of_lt_of_le, mul-le-mul_left}
use native.Mathlib.Numerals.{one-add}
use native.Mathlib.Omega.{arith}
use lib.Dec.{ltb, eqb, eqb-suc-zero, lit<}
use lib.IntN.{negsuc}
use lib.Pow.{pow_mono, pow_pos}
use lib.Ieee.{fin, binary32, mul, round, fits}
use borrow.Author.Tests.{eqb-false, le-leb, lt-ltb}
use Rattle.lists.specs.Limits.{largest_side, last_level}
use Rattle.lists.specs.Tab.{tab}
use Rattle.lists.proofs.Tests.{or-neither}
use Rattle.lists.proofs.Tab.{tab-add, tab-ext, grid-ext}
use Rattle.float32.proofs.Canonical.{round-own}
use Rattle.response.proofs.Indices.{row_below}
use Rattle.pyramid_levels.specs.Levels.{level_side, is_below, is_too_small, halvings, level_count}
use Rattle.pyramid_levels.proofs.Sides.{side-base, side-next}
use Rattle.pyramid.specs.Pyramid.{box_of, half_pixel, halved, level_pixels}
use Rattle.pyramid.proofs.Levels.{level-bytes}
use Rattle.accuracy.specs.Accurate.{Bytes}
use Rattle.published.specs.PyramidRs.{LevelRs, box_rs, half_rs, half32, next_rs, loop_rs, pyramid_rs, scale_of, level_of}
use Rattle.published.specs.PyramidRs.{PyramidAsPublished}

-- ---- scales
power-fits : (k : ℕ) → k < 149 → fits binary32 (fin false 1 (negsuc k)) ≡ true
unfolding fits
power-fits k l =
    let large : 1 < 2 ^ 128 * 2 ^ suc k = lt_of_lt_of_le (lit< tt) (mul-le-mul_left (2 ^ 128) (pow_pos (suc k))) in
    rw (le-leb (2 ^ suc k) (2 ^ 149) (pow_mono l), lt-ltb 1 (2 ^ 128 * 2 ^ suc k) large)

pub scale-next : (k : ℕ) → k < 149 → mul binary32 (scale_of k) half32 ≡ scale_of (suc k)
unfolding mul
scale-next zero l = unfold round in refl
scale-next (suc k) l =
    ap (λ (d : ℕ). round binary32 false 1 d) (sym (pow-suc 2 (suc k))) ∙ round-own false 1 (negsuc (suc k)) (power-fits (suc k) l)

-- the largest side can be halved as often as there are levels above the base
few : (w k : ℕ) → w ≤ largest_side → 0 < w / 2 ^ k → k ≤ last_level
few w k l h = elim (dec_lt 12 k) [
  | no g ↦ omega arith
  | yes m ↦ absurd (let none : w / 2 ^ k ≡ 0 = div-eq_of_lt (lt_of_lt_of_le (omega arith) (pow_mono {j = k} m)) in omega arith)
]

-- ---- pixels
box-is : (a b c d : ℕ) → a < 256 → b < 256 → c < 256 → d < 256 → box_rs a b c d ≡ box_of a b c d
box-is a b c d A B C D = mod-eq_of_lt (omega arith)

half_is : (img : List ℕ) (w x y : ℕ) → Bytes img → half_rs img w x y ≡ half_pixel img w x y
unfolding half_pixel
half_is img w x y bytes = box-is _ _ _ _ (bytes _) (bytes _) (bytes _) (bytes _) ∙ rw (mul_comm y 2, mul_comm x 2, row_below w (2 * y))

-- ---- levels
module _ (base : List ℕ) (w h least : ℕ) (bytes : Bytes base) (narrow : w ≤ largest_side) where
  abbrev level : ℕ → LevelRs
  level = level_of base w h

  next-is : (k : ℕ) → k < 149 → next_rs (level k) ≡ level (suc k)
  unfolding next_rs level_pixels halved
  next-is k l =
      rw (grid-ext (level_side w k / 2) (level_side h k / 2) _ _
      (λ x y _ _. half_is (level_pixels base w h k) (level_side w k) x y (level-bytes base w h bytes k)))
      (rw (scale-next k l, side-next w k (level_side w k) refl, side-next h k (level_side h k) refl))

  small_is : (a b : ℕ) → (eqb a 0 || eqb b 0 || ltb a least || ltb b least) ≡ is_too_small a b least
  small_is a b = go (eqb a 0) (eqb b 0) (ltb a least) (ltb b least)
    where
      go : (p q r s : Bool) → (p || q || r || s) ≡ (p || q || (r || s))
      go true q r s = refl
      go false true r s = refl
      go false false r s = refl

  -- the levels from one on, by the next one and those from that on
  tab-from : (k m : ℕ) → tab (suc m) (λ i. level (k + i)) ≡ level k ∷ tab m (λ i. level (suc k + i))
  unfolding tab
  tab-from k m =
      ap (λ (n : ℕ). tab n (λ i. level (k + i))) (sym (one-add m))
      ∙ tab-add 1 m (λ i. level (k + i))
      ∙ ap₂ (λ (a : LevelRs) (l : List LevelRs). a ∷ l) (ap level (omega arith)) (tab-ext m _ _ (λ i _. ap level (omega arith)))

  loop-is : (n k : ℕ) → loop_rs n least (level k) ≡ tab (halvings n (level_side w k) (level_side h k) least) (λ i. level (suc k + i))
  unfolding loop_rs halvings
  loop-is zero k = unfold tab in refl
  loop-is (suc n) k =
      rw (small_is (level_side w k / 2) (level_side h k / 2))
      (go (is_too_small (level_side w k / 2) (level_side h k / 2) least) refl (loop-is n (suc k)))
    where
      go : (b : Bool) → is_too_small (level_side w k / 2) (level_side h k / 2) least ≡ b
          → loop_rs n least (level (suc k))
          ≡ tab (halvings n (level_side w (suc k)) (level_side h (suc k)) least) (λ i. level (suc (suc k) + i))
          → cond b [] (next_rs (level k) ∷ loop_rs n least (next_rs (level k)))
          ≡ tab (cond b 0 (suc (halvings n (level_side w k / 2) (level_side h k / 2) least))) (λ i. level (suc k + i))
      go true e again = unfold tab in refl
      go false e again =
          let a = level_side w k / 2 in
          let b = level_side h k / 2 in
          let some = eqb-false a 0 (or-neither (eqb a 0) (eqb b 0) (or-neither (eqb a 0 || eqb b 0) _ e).0).0 in
          let next = side-next w k (level_side w k) refl in
          let half : 0 < w / 2 ^ suc k = omega (arith, next, some) in
          rw (next-is k (omega (arith, few w (suc k) narrow half)), next, side-next h k (level_side h k) refl, again)
          (sym (tab-from (suc k) (halvings n (level_side w (suc k)) (level_side h (suc k)) least)))

  base-is : record { w = w; h = h; pixels = base; scale = scale_of 0 } ≡ level 0
  unfolding level_pixels
  base-is = ap₂ (λ (a b : ℕ). record { w = a; h = b; pixels = base; scale = scale_of 0 }) (side-base w) (side-base h)

  all-is : (n : ℕ) → level 0 ∷ loop_rs n least (level 0) ≡ tab (suc (halvings n w h least)) level
  all-is n =
      let above : loop_rs n least (level 0) ≡ tab (halvings n w h least) (λ i. level (1 + i)) =
      loop-is n 0 ∙ ap₂ (λ (a b : ℕ). tab (halvings n a b least) (λ i. level (1 + i))) (sym (side-base w)) (sym (side-base h)) in
      ap (λ (l : List LevelRs). level 0 ∷ l) above
      ∙ sym (tab-from 0 (halvings n w h least))
      ∙ tab-ext (suc (halvings n w h least)) _ _ (λ i _. ap level (omega arith))

pub pyramid-as-published : PyramidAsPublished
unfolding pyramid_rs level_count
pyramid-as-published base w h zero least bytes narrow = unfold tab in refl
pyramid-as-published base w h (suc n) least bytes narrow =
    let turns : suc n - 1 ≡ n = omega arith in
    rw (eqb-suc-zero n, base-is base w h least bytes narrow, turns, all-is base w h least bytes narrow n) (go (is_below w h least))
  where
    go : (b : Bool) → cond b [] (tab (suc (halvings n w h least)) (level_of base w h))
        ≡ tab (cond b 0 (suc (halvings n w h least))) (level_of base w h)
    go true = unfold tab in refl
    go false = refl
