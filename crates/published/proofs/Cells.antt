-- No cell number is above that of the largest coordinate, so the published cap never shows. Assumes nothing.
use mathlib.Core.Path.{◌≡◌, refl, sym}
use mathlib.Core.Bool.{true, false, true≢false}
use mathlib.Core.List.{List, [], ◌∷◌, map}
use Prim.Native.Nat.{ℕ, ◌+◌, ◌-◌, ◌*◌, ◌/◌, ◌^◌, ◌≤◌, ◌<◌, min}
use native.Mathlib.Nat.{zero-mul, mul-pos, mul-le-mul, mul-le-mul_right, mul_comm, lt_of_le_of_lt, div-le_of_le-mul}
use native.Mathlib.Omega.{arith}
use lib.Dec.{T, lit<, lit≤}
use lib.Ieee.{Float, inf, binary32, le, round, sub, mul, div}
use lib.Ieee.Back.{round_whole}
use lib.Ieee.Nearest.{div_mono}
use lib.Ieee.Positive.{num, den, den_pos, own_value, value_pos, le→cross, between}
use Rattle.lists.specs.Limits.{largest_side}
use Rattle.lists.specs.Places.{All}
use Rattle.lists.proofs.Tests.{to-T, and_parts}
use Rattle.lists.proofs.Members.{all_map, all-mapped, all-unmapped, all_both}
use Rattle.float32.specs.Float32.{zero, between as between32}
use Rattle.float32.proofs.Poly.{poly}
use Rattle.float32.proofs.Values.{of-HasValue, rescale}
use Rattle.float32.proofs.Bounds.{div-round, whole-over}
use Rattle.corner_list.specs.declared.Corner.{Corner}
use Rattle.corner_list.specs.CornerList.{x_of, y_of, largest_coordinate}
use Rattle.corner_list.proofs.Inside.{inside-parts}
use Rattle.merge_radius.specs.MergeRadius.{least_merge_radius, largest_merge_radius, is_sized}
use Rattle.merge_grid.specs.Grid.{cell_of, least_from, grid_of}
use Rattle.published.specs.Rust.{whole_float, floor_f, cut_usize}
use Rattle.published.specs.PyramidRs.{one32}
use Rattle.published.specs.MergeRs.{greatest_from, grid_rs, side_rs, cell_rs, CellsAsPublished}
use Rattle.published.proofs.Monotone.{Is, order, own_is, finite-below, cut-is, floor-is}
use Rattle.published.proofs.Monotone.{Rounds, rounds-le, rounds-above, rounds-most, sub-rounds, mul-rounds}
use Rattle.published.proofs.Extremes.{Plain, crossed, extremes, greatest-keeps}

-- ---- numbers of bounded size
over : (x : Float) (a c : ℕ) → Plain x → num x * c ≡ a * den x → Is x a c
over x a c p e =
    rescale x (num x) 0 (den x) a 0 c (den_pos x) (omega (arith, zero-mul (den x), zero-mul c)) (own_is x p.above p.bounded)

whole_is : (k c : ℕ) → k ≤ 2 ^ 24 → Is (whole_float false k) (k * c) c
whole_is k c l = of-HasValue (whole_float false k) false (k * c) c (whole-over (whole_float false k) k c (round_whole binary32 false k l))

-- a rounded number of at most k is plain, and at most k
pub record Most (x : Float) (k : ℕ) : Type 0 where
  pub plain : Plain x
  pub most : num x ≤ k * den x

below-whole : (x : Float) (k : ℕ) → k ≤ 2 ^ 24 → Plain x → T (le x (whole_float false k)) → Most x k
below-whole x k l p h = record {
  plain = p;
  most = (order x (whole_float false k) (num x) (k * den x) (den x) (den_pos x) (own_is x p.above p.bounded)
      (whole_is k (den x) l)).0 h;
}

rounds-plain : (x : Float) (n d k : ℕ) → 0 < d → n ≤ k * d → k ≤ 2 ^ 24 → Rounds x n d → Most x k
rounds-plain x n d k D l small r =
    let above = rounds-above x n d D r in
    let most = rounds-most x n d k D l r in
    below-whole x k small (record {
      above = above;
      bounded = finite-below x (whole_float false k) above most (whole_is k 1 small).is_finite;
    }) most

-- ---- differences: of two coordinates from low on, at most the largest
module _ (low high v : Float) (pl : Plain low) (ph : Most high largest_side) (pv : Plain v) (a : T (le low v)) (b : T (le v high)) where
  -- all three over one denominator
  abbrev d : ℕ
  d = den v * (den low * den high)

  abbrev of-v : ℕ
  of-v = num v * (den low * den high)

  abbrev of_low : ℕ
  of_low = num low * (den v * den high)

  abbrev of-high : ℕ
  of-high = num high * (den v * den low)

  d-pos : 0 < d
  d-pos = mul-pos (den_pos v) (mul-pos (den_pos low) (den_pos high))

  v-is : Is v of-v d
  v-is = over v of-v d pv (simp poly)

  low-is : Is low of_low d
  low-is = over low of_low d pl (simp poly)

  high_is : Is high of-high d
  high_is = over high of-high d ph.plain (simp poly)

  first : of_low ≤ of-v
  first = (order low v of_low of-v d d-pos low-is v-is).0 a

  second : of-v ≤ of-high
  second = (order v high of-v of-high d d-pos v-is high_is).0 b

  small : of-high ≤ largest_side * d
  small = let x = simp poly at (mul-le-mul_right (den v * den low) ph.most) in simp poly x

  v-rounds : Rounds (sub binary32 v low) (of-v - of_low) d
  v-rounds = sub-rounds v low of-v of_low d d-pos first v-is low-is

  high-rounds : Rounds (sub binary32 high low) (of-high - of_low) d
  high-rounds = sub-rounds high low of-high of_low d d-pos (omega (arith, first, second)) high_is low-is

  pub v-less : Most (sub binary32 v low) largest_side
  v-less = rounds-plain (sub binary32 v low) (of-v - of_low) d largest_side d-pos (omega (arith, second, small)) (lit≤ tt) v-rounds

  pub high-less : Most (sub binary32 high low) largest_side
  high-less = rounds-plain (sub binary32 high low) (of-high - of_low) d largest_side d-pos (omega (arith, small)) (lit≤ tt) high-rounds

  pub less-ordered : T (le (sub binary32 v low) (sub binary32 high low))
  less-ordered =
      rounds-le (sub binary32 v low) (sub binary32 high low) (of-v - of_low) d (of-high - of_low) d d-pos d-pos v-rounds high-rounds
      (mul-le-mul_right d (omega (arith, second)))

-- whole parts of two numbers in order
uncapped : (x y : Float) → Most x 262144 → Most y 262144 → T (le x y) → min (cut_usize x) (cut_usize (floor_f y) + 1 - 1) ≡ cut_usize x
uncapped x y p q h =
    let a : num x / den x ≤ 262144 = div-le_of_le-mul (den x) (rw (mul_comm (den x) 262144) p.most) in
    let b : num y / den y ≤ 262144 = div-le_of_le-mul (den y) (rw (mul_comm (den y) 262144) q.most) in
    let c = div_mono (num x) (den x) (num y) (den y) (den_pos x) (den_pos y) ((crossed x y p.plain q.plain).0 h) in
    let cut = cut-is x p.plain.above p.plain.bounded (lt_of_le_of_lt a (lit< tt)) in
    let floor = floor-is y q.plain.above q.plain.bounded (omega arith) in
    rw (cut, floor) (omega arith)

-- ---- products with an inverse of at most 64
module _ (inv : Float) (mi : Most inv 64) where
  product-rounds : (x : Float) → Most x largest_side → Rounds (mul binary32 x inv) (num x * num inv) (den x * den inv)
  product-rounds x m =
      mul-rounds x inv (num x) (den x) (num inv) (den inv) (den_pos x) (den_pos inv) (own_is x m.plain.above m.plain.bounded)
      (own_is inv mi.plain.above mi.plain.bounded)

  product-most : (x : Float) → Most x largest_side → Most (mul binary32 x inv) 262144
  product-most x m =
      rounds-plain (mul binary32 x inv) (num x * num inv) (den x * den inv) 262144 (mul-pos (den_pos x) (den_pos inv))
      (let y = simp poly at (mul-le-mul m.most mi.most) in simp poly (omega arith)) (lit≤ tt) (product-rounds x m)

  product-ordered : (u w : Float) → Most u largest_side → Most w largest_side → T (le u w)
      → T (le (mul binary32 u inv) (mul binary32 w inv))
  product-ordered u w mu mw h =
      rounds-le (mul binary32 u inv) (mul binary32 w inv) (num u * num inv) (den u * den inv) (num w * num inv) (den w * den inv)
      (mul-pos (den_pos u) (den_pos inv)) (mul-pos (den_pos w) (den_pos inv)) (product-rounds u mu) (product-rounds w mw)
      (let x = simp poly at (mul-le-mul_right (num inv * den inv) ((crossed u w mu.plain mw.plain).0 h)) in simp poly x)

-- ---- one axis
axis : (low high v inv : Float) → Plain low → Most high largest_side → Plain v → Most inv 64 → T (le low v) → T (le v high)
    → cell_rs low inv (side_rs low high inv) v ≡ cell_of low inv v
axis low high v inv pl ph pv mi a b =
    let u = v-less low high v pl ph pv a b in
    let w = high-less low high v pl ph pv a b in
    uncapped (mul binary32 (sub binary32 v low) inv) (mul binary32 (sub binary32 high low) inv)
    (product-most inv mi (sub binary32 v low) u) (product-most inv mi (sub binary32 high low) w)
    (product-ordered inv mi (sub binary32 v low) (sub binary32 high low) u w (less-ordered low high v pl ph pv a b))

-- ---- the inverse of a radius of at least 1/64
inverse-most : (radius : Float) → is_sized radius ≡ true → Most (div binary32 one32 radius) 64
unfolding is_sized
inverse-most radius e =
    let p = and_parts (le least_merge_radius radius) (le radius largest_merge_radius) e in
    let some = between least_merge_radius radius largest_merge_radius tt tt (to-T p.0) (to-T p.1) in
    let top : 0 < num radius = value_pos radius (num radius) (den radius) some (den_pos radius) (own_value radius some) in
    let l = le→cross least_merge_radius radius tt some (to-T p.0) in
    let is : div binary32 one32 radius ≡ round binary32 false (1 * den radius) (num radius) =
    div-round binary32 one32 radius (1 * den radius) (num radius) (den radius) (den_pos radius) top
    (whole-over one32 1 (den radius) (refl, refl))
    (own_value radius some) in
    rounds-plain (div binary32 one32 radius) (1 * den radius) (num radius) 64 top (omega (arith, l)) (lit≤ tt)
    (record {
      sign = false;
      top = 1 * den radius;
      bottom = num radius;
      bottom-pos = top;
      is = is;
      none = λ q. absurd (true≢false (sym q));
      frac = refl;
    })

-- ---- the coordinates
pub coordinate : (x : Float) → between32 zero largest_coordinate x ≡ true → Most x largest_side
coordinate x e =
    let p = and_parts (le zero x) (le x largest_coordinate) e in
    let plain : Plain x = record { above = to-T p.0; bounded = finite-below x largest_coordinate (to-T p.0) (to-T p.1) tt } in
    let top = of-HasValue largest_coordinate false (largest_side * den x) (den x)
    (whole-over largest_coordinate largest_side (den x) (refl, refl)) in
    record {
      plain = plain;
      most = (order x largest_coordinate (num x) (largest_side * den x) (den x) (den_pos x)
          (own_is x plain.above plain.bounded) top).0 (to-T p.1);
    }

-- from the least to the greatest of a list
abbrev Between : List Float → Float → Type 0
Between l v = T (le (least_from (inf false) l) v) × T (le v (greatest_from (inf true) l))

-- the cells of a list's coordinates on one axis
along : (co : Corner → Float) (radius : Float) (cs : List Corner) → is_sized radius ≡ true → All (λ c. Most (co c) largest_side) cs
    → let low = least_from (inf false) (map co cs) in
    let high = greatest_from (inf true) (map co cs) in
    let inv = div binary32 one32 radius in
    All (λ c. cell_rs low inv (side_rs low high inv) (co c) ≡ cell_of low inv (co c)) cs
along co radius [] e a = tt
along co radius (c ∷ l) e a =
    let ms = all-mapped (λ x. Most x largest_side) co (c ∷ l) a in
    let ps = all_map (λ x. Most x largest_side) Plain (λ x m. m.plain) (map co (c ∷ l)) ms in
    let x = extremes (co c) (map co l) ps in
    let high = greatest-keeps (λ x. Most x largest_side) (co c) (map co l) ps.0 ms in
    let within = all-unmapped (Between (map co (c ∷ l))) co (c ∷ l) x.between in
    all_map _ _ (λ o h. axis _ _ (co o) _ x.least high h.0.plain (inverse-most radius e) h.1.0 h.1.1) (c ∷ l)
    (all_both _ _ (c ∷ l) a within)

pub cells-as-published : CellsAsPublished
unfolding grid_rs grid_of
cells-as-published radius cs e a =
    all_both _ _ cs
    (along x_of radius cs e (all_map _ _ (λ c i. coordinate c.x (inside-parts c i).0) cs a))
    (along y_of radius cs e (all_map _ _ (λ c i. coordinate c.y (inside-parts c i).1) cs a))
