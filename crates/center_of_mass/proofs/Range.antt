-- Where an accepted centre of mass lies, in a map as the response makes it: it is the quotient of two running sums over a window within the
-- map. Assumes nothing.
use mathlib.Core.Path.{◌≡◌, refl, sym, subst}
use mathlib.Core.Bool.{Bool, true, false, cond}
use mathlib.Core.List.{List}
use Prim.Native.Nat.{ℕ, zero, suc, ◌+◌, ◌-◌, ◌*◌, ◌≤◌, ◌<◌}
use native.Mathlib.Nat.{mul-le-mul, mul-le-mul_right, mul_comm, suc-mul}
use native.Mathlib.Omega.{arith}
use lib.Dec.{T}
use lib.ListN.{length}
use lib.IntN.{pos}
use lib.Ieee.{Float, nan, binary32, lt, add, div, of_int}
use Rattle.lists.specs.Limits.{largest_side, largest_radius}
use Rattle.lists.specs.Places.{All}
use Rattle.lists.proofs.Places.{length-block}
use Rattle.lists.proofs.Members.{all-at, all-block}
use Rattle.float32.specs.Float32.{zero as zero32, round_half_away}
use Rattle.float32.specs.declared.Rounded.TheVariants.{Natural}
use Rattle.float32.proofs.Bounds.{UpTo, upto-more, whole-upto, add-upto}
use Rattle.center_of_mass.specs.declared.Sums.{Sums}
use Rattle.center_of_mass.specs.declared.Outcome.TheVariants.{Accepted, Rejected, IllConditioned}
use Rattle.std.specs.Prelude.{Option, None, Some}
use Rattle.center_of_mass.specs.CenterOfMass.{no_sums, weight_at, cells_about, window_sums, refusal_of, centre_on, mean_of, weighed}
use Rattle.center_of_mass.specs.CenterOfMass.{outcome_of, refined, unless_refused}
use Rattle.center_of_mass.proofs.Axis.{centre-rounded, window-in}
use Rattle.center_of_mass.proofs.Judgement.{radius-small, map-fits}
use Rattle.center_of_mass.proofs.Weights.{Usual, Weighs, weighs, sx-is, sy-is, mean-upto}

-- ---- the window of radius r about a centre whose window lies within the map
pub record Inside (r : ℕ) (m : List Float) (w h cx cy : ℕ) : Type 0 where
  pub radius : r ≤ largest_radius
  pub across : (r ≤ cx) × (cx + r < w)
  pub down : (r ≤ cy) × (cy + r < h)
  pub sides : (w ≤ largest_side) × (h ≤ largest_side)
  pub cells : length m ≡ w * h

-- the cells of a window whose radius is at most n
pub window-few : (r cx cy n : ℕ) → r ≤ n → length (cells_about r cx cy) ≤ (2 * n + 1) * (2 * n + 1)
window-few r cx cy n h =
    let a : cx + r + 1 - (cx - r) ≤ 2 * n + 1 = omega arith in
    let b : cy + r + 1 - (cy - r) ≤ 2 * n + 1 = omega arith in
    subst (λ (k : ℕ). k ≤ (2 * n + 1) * (2 * n + 1)) (sym (length-block (cx - r) (cx + r + 1) (cy - r) (cy + r + 1))) (mul-le-mul b a)

module _ (r : ℕ) (m : List Float) (w h cx cy : ℕ) (i : Inside r m w h cx cy) where
  pub window-weighs : All Usual m → All (λ p. Weighs (weight_at m w p)) (cells_about r cx cy)
  window-weighs u =
      all-block _ (cx - r) (cx + r + 1) (cy - r) (cy + r + 1)
      (λ x y a b c d. weighs _ (all-at Usual m u (y * w + x) nan (cell_in x y (omega (arith, i.across)) (omega (arith, i.down)))))
    where
      cell_in : (x y : ℕ) → x < w → y < h → y * w + x < length m
      cell_in x y a b = omega (arith, i.cells, mul_comm w h, suc-mul y w, mul-le-mul_right w b)

  module _ (u : All Usual m) (p : T (lt zero32 (window_sums r m w cx cy).sw)) where
    x-upto : UpTo (div binary32 (window_sums r m w cx cy).sx (window_sums r m w cx cy).sw) w
    x-upto =
        upto-more _ (cx + r + 1) w (omega (arith, i.across))
        (rw (sx-is m w no_sums (cells_about r cx cy))
        (mean-upto m w (cells_about r cx cy) (window-few r cx cy 16 i.radius) (window-weighs u) (λ p. p.x) (cx + r)
        (omega (arith, i.across, i.sides)) (all-block _ (cx - r) (cx + r + 1) (cy - r) (cy + r + 1) (λ x y a b c d. omega arith)) p))

    y-upto : UpTo (div binary32 (window_sums r m w cx cy).sy (window_sums r m w cx cy).sw) h
    y-upto =
        upto-more _ (cy + r + 1) h (omega (arith, i.down))
        (rw (sy-is m w no_sums (cells_about r cx cy))
        (mean-upto m w (cells_about r cx cy) (window-few r cx cy 16 i.radius) (window-weighs u) (λ p. p.y) (cy + r)
        (omega (arith, i.down, i.sides)) (all-block _ (cx - r) (cx + r + 1) (cy - r) (cy + r + 1) (λ x y a b c d. omega arith)) p))

-- ---- what an accepted outcome says
pub record Weighing (r : ℕ) (x y : Float) (m : List Float) (w h : ℕ) (cx cy mass : Float) : Type 0 where
  pub px : ℕ
  pub py : ℕ
  pub column-is : round_half_away x ≡ Natural px
  pub row_is : round_half_away y ≡ Natural py
  pub inside : Inside r m w h px py
  pub above : T (lt zero32 (window_sums r m w px py).sw)
  pub cx-is : cx ≡ div binary32 (window_sums r m w px py).sx (window_sums r m w px py).sw
  pub cy-is : cy ≡ div binary32 (window_sums r m w px py).sy (window_sums r m w px py).sw
  pub mass-is : mass ≡ (window_sums r m w px py).sw

module _ (r : ℕ) (x y : Float) (m : List Float) (w h : ℕ) (cx cy mass : Float) where
  mean-accepted : (s : Sums) → mean_of x y s ≡ Accepted cx cy mass
      → T (lt zero32 s.sw) × (cx ≡ div binary32 s.sx s.sw) × (cy ≡ div binary32 s.sy s.sw) × (mass ≡ s.sw)
  mean-accepted s e = go (lt zero32 s.sw) e
    where
      go : (b : Bool) → cond b (Accepted (div binary32 s.sx s.sw) (div binary32 s.sy s.sw) s.sw)
          (IllConditioned x y) ≡ Accepted cx cy mass
          → T b × (cx ≡ div binary32 s.sx s.sw) × (cy ≡ div binary32 s.sy s.sw) × (mass ≡ s.sw)
      go true e = (tt, (cc), (cc), (cc))
      go false e = absurd (let z : ◌≡◌ {A = ℕ} 0 1 = cc in omega arith)

  -- the map, which nothing is refused of
  module _ (radius : r ≤ largest_radius) (sides : (w ≤ largest_side) × (h ≤ largest_side)) (cells : length m ≡ w * h) where
    weighing-at : (a b : Option ℕ) → centre_on r w x ≡ a → centre_on r h y ≡ b → weighed r x y m w a b ≡ Accepted cx cy mass
        → Weighing r x y m w h cx cy mass
    weighing-at (Some px) (Some py) p q e =
        let k = mean-accepted (window_sums r m w px py) e in
        record {
          px = px;
          py = py;
          column-is = centre-rounded r w px x (sym p);
          row_is = centre-rounded r h py y (sym q);
          inside = record {
            radius = radius;
            across = window-in r w px x (sym p);
            down = window-in r h py y (sym q);
            sides = sides;
            cells = cells;
          };
          above = k.0;
          cx-is = k.1;
          cy-is = k.2;
          mass-is = k.3;
        }
    weighing-at (Some px) None p q e = absurd (let z : ◌≡◌ {A = ℕ} 0 1 = cc in omega arith)
    weighing-at None b p q e = absurd (let z : ◌≡◌ {A = ℕ} 0 1 = cc in omega arith)

  pub weighing : (has_map : Bool) → refined r x y has_map m w h ≡ Accepted cx cy mass → Weighing r x y m w h cx cy mass
  unfolding refined outcome_of
  weighing has_map e = judged (refusal_of r x y has_map (length m) w h) refl has_map refl e
    where
      judged : (k : ℕ) → refusal_of r x y has_map (length m) w h ≡ k → (b : Bool) → has_map ≡ b
          → unless_refused k (cond b (outcome_of r x y m w h) (Rejected x y)) ≡ Accepted cx cy mass → Weighing r x y m w h cx cy mass
      judged zero n true t e =
          let f = map-fits r x y (length m) w h has_map n t in
          weighing-at (radius-small r x y (length m) w h has_map n) (f.narrow, f.low) f.sized (centre_on r w x)
          (centre_on r h y) refl refl e
      judged zero n false t e = absurd (let z : ◌≡◌ {A = ℕ} 0 1 = cc in omega arith)
      judged (suc k) n b t e = absurd (let z : ◌≡◌ {A = ℕ} 0 1 = cc in omega arith)

-- ---- it lies within the map: 0 ≤ x ≤ w and 0 ≤ y ≤ h
pub within-map : (r : ℕ) (x y : Float) (has_map : Bool) (m : List Float) (w h : ℕ) (cx cy mass : Float) → All Usual m
    → refined r x y has_map m w h ≡ Accepted cx cy mass → UpTo cx w × UpTo cy h
within-map r x y has_map m w h cx cy mass u e =
    let g = weighing r x y m w h cx cy mass has_map e in (
      rw g.cx-is (x-upto r m w h g.px g.py g.inside u g.above),
      rw g.cy-is (y-upto r m w h g.px g.py g.inside u g.above),
    )

moved : (c : Float) (w x0 width : ℕ) → x0 + w ≤ width → width ≤ largest_side → UpTo c w
    → UpTo (add binary32 c (of_int binary32 (pos x0))) width
moved c w x0 width h k u =
    upto-more (add binary32 c (of_int binary32 (pos x0))) (w + x0) width (omega arith)
    (add-upto binary32 c (of_int binary32 (pos x0)) w x0 (omega arith) u (whole-upto binary32 x0 (omega arith)))

-- and, moved by the corner (x0, y0) of the map's box in an image, within the image
pub within-image : (r : ℕ) (x y : Float) (has_map : Bool) (m : List Float) (w h : ℕ) (cx cy mass : Float) → All Usual m
    → refined r x y has_map m w h ≡ Accepted cx cy mass → (x0 y0 width height : ℕ) → x0 + w ≤ width → y0 + h ≤ height → width ≤ largest_side
    → height ≤ largest_side
    → UpTo (add binary32 cx (of_int binary32 (pos x0))) width × UpTo (add binary32 cy (of_int binary32 (pos y0))) height
within-image r x y has_map m w h cx cy mass u e x0 y0 width height a b k l =
    let i = within-map r x y has_map m w h cx cy mass u e in
    (moved cx w x0 width a k i.0, moved cy h y0 height b l i.1)
