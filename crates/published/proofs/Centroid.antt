-- The centre of mass is the published one: the window of a seed that is not out of bounds lies in the map, so that no cell of it is
-- clamped, and the sums do not show which zero a weight is. Assumes nothing.
use mathlib.Core.Path.{◌≡◌, refl, sym, ap, ap₂, ◌∙◌}
use mathlib.Core.Bool.{Bool, true, false, cond, ◌&&◌, ◌||◌, true≢false}
use mathlib.Core.List.{List, [], ◌∷◌}
use Prim.Native.Nat.{ℕ, zero, suc, ◌+◌, ◌-◌, ◌*◌, ◌^◌, ◌≤◌, ◌<◌}
use native.Mathlib.Omega.{arith}
use lib.Dec.{T, ltb, leb, lit<}
use lib.IntN.{ℤ, pos, sub_ℕ, ◌+ℤ◌, ◌-ℤ◌}
use lib.Signed.{lt_z, le_z}
use lib.ListN.{length, get_or}
use lib.Ieee.{Float, nan, inf, fin, binary32, up, down, of_int, mul, lt, le, fits}
use lib.Ieee.Fits.{down_pos}
use lib.Ieee.Order.{le_of_values}
use lib.Ieee.Exact.{HasValue}
use borrow.Author.Tests.{ltb-false, leb-false, not-false}
use Rattle.lists.specs.Limits.{largest_side, largest_radius}
use Rattle.lists.specs.Places.{Place, range, flat_map, All}
use Rattle.lists.proofs.Tests.{to-T, from-T, or-neither, and_parts}
use Rattle.lists.proofs.Refusals.{all-clear}
use Rattle.lists.proofs.Members.{all-block, all_map, all_of}
use Rattle.float32.specs.Float32.{zero as zero32, abs, signed, nearest_whole, largest_rounded, round_half_away}
use Rattle.float32.specs.declared.Rounded.{Rounded}
use Rattle.float32.specs.declared.Rounded.TheVariants.{Natural, Negative, Beyond}
use Rattle.float32.proofs.Values.{of_int-value}
use Rattle.float32.proofs.Bounds.{value-le, whole-over}
use Rattle.float32.proofs.Running.{summed}
use Rattle.center_of_mass.specs.declared.Outcome.{Outcome}
use Rattle.center_of_mass.specs.declared.Outcome.TheVariants.{OutOfBounds}
use Rattle.center_of_mass.specs.CenterOfMass.{cells_about, weight_at, furthest_seed, seed_fits, conditions, refusal_of, outcome_of, refined}
use Rattle.center_of_mass.proofs.Weights.{term}
use Rattle.center_of_mass.proofs.Judgement.{radius-small, map-fits}
use Rattle.center_of_mass.proofs.Told.{is_out, mean_by, outcome-out, outcome-in}
use Rattle.published.specs.Rust.{as_usize, clamp_z, around, IsMax}
use Rattle.published.specs.CenterOfMassRs.{weighed_rs, cells_rs, sum_rs, refine_rs, RefineAsPublished}
use Rattle.published.proofs.Integers.{plus-is, minus_is, up-to, sub-high, clamped}
use Rattle.published.proofs.Loops.{flat-map, clipped, rows-block, flat-each}
use Rattle.published.proofs.Rounds.{integer_of, round_is}
use Rattle.published.proofs.Maximum.{max-lifts}
use Rattle.published.proofs.Sums.{upright, Sum, Alike, sums-alike, weight-alike, weight-upright, product-alike, product-upright}

-- ---- the cells
module _ (r w h cx cy : ℕ) (left : r ≤ cx) (right : cx + r < w) (above : r ≤ cy) (below : cy + r < h) where
  abbrev cell : ℕ → ℕ → Place
  cell j i = weighed_rs w h (pos cx) (pos cy) (sub_ℕ j r) (sub_ℕ i r)

  unclamped : (side c i : ℕ) → r ≤ c + i → c + i < side + r
      → as_usize (clamp_z (pos c +ℤ sub_ℕ i r) (pos 0) (pos side -ℤ pos 1)) ≡ c + i - r
  unclamped side c i a b = rw (plus-is c i r, sub-high (c + i) r a) (clamped side (c + i - r) (omega arith))

  cell-is : (j i : ℕ) → r ≤ cx + i → cx + i < w + r → r ≤ cy + j → cy + j < h + r → cell j i ≡ record { x = cx + i - r; y = cy + j - r }
  cell-is j i a b c d = ap₂ (λ (x y : ℕ). record { x = x; y = y }) (unclamped w cx i a b) (unclamped h cy j c d)

  -- one turn, and one row, as the loops gather them and as they are
  abbrev turn : ℤ → ℤ → List Place
  turn dy dx = weighed_rs w h (pos cx) (pos cy) dy dx ∷ []

  abbrev line : ℕ → List Place
  line v = flat_map (λ u. record { x = u; y = v } ∷ []) (range (cx - r) (cx + r + 1))

  line-is : (j : ℕ) → r ≤ cy + j → cy + j < h + r → flat_map (turn (sub_ℕ j r)) (around r) ≡ line (cy + j - r)
  unfolding around
  line-is j c d =
      flat-map (turn (sub_ℕ j r)) (λ (i : ℕ). sub_ℕ i r) (range 0 (2 * r + 1))
      ∙ clipped r cx w (λ i. cell j i ∷ []) (λ u. record { x = u; y = cy + j - r } ∷ [])
      (λ i l. absurd (let no : ⊥ = omega arith in no))
      (λ i l m. absurd (let no : ⊥ = omega arith in no))
      (λ i a b. ap (λ (q : Place). q ∷ []) (cell-is j i a b c d))
      ∙ ap (λ (n : ℕ). flat_map (λ u. record { x = u; y = cy + j - r } ∷ []) (range (cx - r) n)) (omega arith)

  pub cells_are : cells_rs r w h (pos cx) (pos cy) ≡ cells_about r cx cy
  unfolding cells_rs around
  cells_are =
      flat-map (λ dy. flat_map (turn dy) (around r)) (λ (j : ℕ). sub_ℕ j r) (range 0 (2 * r + 1))
      ∙ clipped r cy h (λ j. flat_map (turn (sub_ℕ j r)) (around r)) line
      (λ j l. absurd (let no : ⊥ = omega arith in no))
      (λ j l m. absurd (let no : ⊥ = omega arith in no))
      line-is
      ∙ ap (λ (n : ℕ). flat_map line (range (cy - r) n)) (omega arith)
      ∙ rows-block (λ q. q ∷ []) (cx - r) (cx + r + 1) (cy - r) (cy + r + 1)
      ∙ flat-each (cells_about r cx cy)

-- ---- the sums
sum_is : (term : Place → Float) (s : Float) (ps : List Place) → sum_rs term s ps ≡ summed term s ps
unfolding sum_rs summed
sum_is term s [] = refl
sum_is term s (p ∷ ps) = sum_is term (lib.Ieee.add binary32 s (term p)) ps

nothing : Sum zero32
unfolding fits
nothing = record { stands = tt; fitting = tt }

module _ (m : List Float) (w : ℕ) (weight : Place → Float)
    (max : (p : Place) → IsMax (get_or m (p.y * w + p.x) nan) zero32 (weight p)) where
  alike : (p : Place) → Alike (weight_at m w p) (weight p)
  alike p = weight-alike (get_or m (p.y * w + p.x) nan) (weight p) (max-lifts (get_or m (p.y * w + p.x) nan) (weight p) (max p))

  pub mass-is : (ps : List Place) → sum_rs weight zero32 ps ≡ summed (weight_at m w) zero32 ps
  mass-is ps =
      sum_is weight zero32 ps
      ∙ sums-alike (weight_at m w) weight zero32 ps nothing
      (all_of (λ p. Alike (weight_at m w p) (weight p) × T (upright (weight_at m w p))) (λ p. (alike p, weight-upright _)) ps)

  pub moment-is : (co : Place → ℕ) (ps : List Place) → All (λ p. co p < 2 ^ 24) ps
      → sum_rs (λ p. mul binary32 (of_int binary32 (pos (co p))) (weight p)) zero32 ps ≡ summed (term m w co) zero32 ps
  moment-is co ps small =
      sum_is (λ p. mul binary32 (of_int binary32 (pos (co p))) (weight p)) zero32 ps
      ∙ sums-alike (term m w co) (λ p. mul binary32 (of_int binary32 (pos (co p))) (weight p)) zero32 ps nothing
      (all_map (λ p. co p < 2 ^ 24) _ (λ p l. both p (of_int-value binary32 (co p) l)) ps small)
    where
      both : (p : Place) → HasValue (of_int binary32 (pos (co p))) false (co p) 1
          → Alike (term m w co p) (mul binary32 (of_int binary32 (pos (co p))) (weight p)) × T (upright (term m w co p))
      both p v = (product-alike _ _ _ (co p) v (alike p), product-upright _ _ (co p) v (weight-upright _))

-- ---- the rounded seed
seed-small : (x : Float) → seed_fits x ≡ true → le (abs x) largest_rounded ≡ true
unfolding seed_fits abs le of_int
seed-small nan h = absurd (true≢false (sym h))
seed-small (inf s) h = absurd (true≢false (sym h))
seed-small (fin s m e) h =
    let million = whole-over (of_int binary32 (pos furthest_seed)) furthest_seed (down e) (of_int-value binary32 furthest_seed (lit< tt)) in
    let l = value-le (fin false m e) (of_int binary32 (pos furthest_seed)) (m * up e) (furthest_seed * down e) (down e) (down_pos e)
    (refl, refl) million (to-T h) in
    from-T _ (le_of_values (fin false m e) largest_rounded (m * up e) (down e) (2 ^ 24) 1 (down_pos e) (lit< tt) (refl, refl)
    (refl, refl) (omega arith))

-- the seed's tests on one axis
abbrev is_out_rs : ℕ → ℕ → ℤ → Bool
is_out_rs r side c = lt_z c (pos r) || le_z (pos side -ℤ pos r) c

axis-is : (r side : ℕ) (b : Bool) (n : ℕ) → is_out_rs r side (integer_of (signed b n)) ≡ is_out r side (signed b n)
axis-is r side false n = rw (minus_is side r, up-to side r n)
axis-is r side true zero = rw (minus_is side r, up-to side r 0)
axis-is r side true (suc n) = refl

four : (a b c d : Bool) → (a || b || c || d) ≡ ((a || c) || (b || d))
four true b c d = refl
four false true true d = refl
four false true false d = refl
four false false true d = refl
four false false false d = refl

-- a seed that is not out of bounds is a natural number
natural : (r side : ℕ) (o : Rounded) → is_out r side o ≡ false → (p : ℕ) × (o ≡ Natural p)
natural r side (Natural p) e = (p, refl)
natural r side (Negative n) e = absurd (true≢false e)
natural r side Beyond e = absurd (true≢false e)

rounded-is : (x : Float) → le (abs x) largest_rounded ≡ true → round_half_away x ≡ signed (lt x zero32) (nearest_whole x)
unfolding round_half_away
rounded-is x h = rw h

-- ---- the outcome
module _ (r : ℕ) (x y : Float) (m : List Float) (w h : ℕ) (weight : Place → Float)
    (max : (p : Place) → IsMax (get_or m (p.y * w + p.x) nan) zero32 (weight p)) where
  abbrev moment : (Place → ℕ) → Place → Float
  moment co p = mul binary32 (of_int binary32 (pos (co p))) (weight p)

  -- of the cells
  abbrev mean_rs : List Place → Outcome
  mean_rs cells =
      mean_by x y (sum_rs (moment (λ p. p.x)) zero32 cells) (sum_rs (moment (λ p. p.y)) zero32 cells) (sum_rs weight zero32 cells)

  -- of the rounded seed
  abbrev outcome_rs : ℤ → ℤ → Outcome
  outcome_rs cx cy =
      cond (lt_z cx (pos r) || lt_z cy (pos r) || le_z (pos w -ℤ pos r) cx || le_z (pos h -ℤ pos r) cy) (OutOfBounds x y)
      (mean_rs (cells_rs r w h cx cy))

  module _ (small : r ≤ largest_radius) (narrow : w ≤ largest_side) (low : h ≤ largest_side) where
    weighed-is : (p q : ℕ) → is_out r w (Natural p) ≡ false → is_out r h (Natural q) ≡ false
        → mean_rs (cells_rs r w h (pos p) (pos q))
        ≡ mean_by x y (summed (term m w (λ c. c.x)) zero32 (cells_about r p q)) (summed (term m w (λ c. c.y)) zero32 (cells_about r p q))
        (summed (weight_at m w) zero32 (cells_about r p q))
    weighed-is p q a b =
        let i = or-neither (ltb p r) (leb (w - r) p) a in
        let j = or-neither (ltb q r) (leb (h - r) q) b in
        let right : p + r < w = omega (arith, leb-false (w - r) p i.1) in
        let below : q + r < h = omega (arith, leb-false (h - r) q j.1) in
        let columns = all-block (λ c. c.x < 2 ^ 24) (p - r) (p + r + 1) (q - r) (q + r + 1) (λ u v _ k _ _. omega arith) in
        let rows = all-block (λ c. c.y < 2 ^ 24) (p - r) (p + r + 1) (q - r) (q + r + 1) (λ u v _ _ _ k. omega arith) in
        let cells = cells_about r p q in
        rw (cells_are r w h p q (ltb-false p r i.0) right (ltb-false q r j.0) below)
        (rw (
          mass-is m w weight max cells,
          moment-is m w weight max (λ c. c.x) cells columns,
          moment-is m w weight max (λ c. c.y) cells rows,
        ))

    outcome-is : le (abs x) largest_rounded ≡ true → le (abs y) largest_rounded ≡ true
        → outcome_rs (integer_of (round_half_away x)) (integer_of (round_half_away y)) ≡ outcome_of r x y m w h
    outcome-is f g =
        rw (
          four (lt_z (integer_of (round_half_away x)) (pos r)) (lt_z (integer_of (round_half_away y)) (pos r)) _ _,
          axis w x f,
          axis h y g,
        )
        (go (is_out r w (round_half_away x)) (is_out r h (round_half_away y)) refl refl)
      where
        axis : (side : ℕ) (x : Float) → le (abs x) largest_rounded ≡ true
            → is_out_rs r side (integer_of (round_half_away x)) ≡ is_out r side (round_half_away x)
        axis side x f = rw (rounded-is x f) (axis-is r side (lt x zero32) (nearest_whole x))

        go : (a b : Bool) → is_out r w (round_half_away x) ≡ a → is_out r h (round_half_away y) ≡ b
            → cond (a || b) (OutOfBounds x y) (mean_rs (cells_rs r w h (integer_of (round_half_away x)) (integer_of (round_half_away y))))
            ≡ outcome_of r x y m w h
        go true b p q = sym (outcome-out r x y m w h (rw p))
        go false true p q = sym (outcome-out r x y m w h (rw (p, q)))
        go false false p q =
            let u = natural r w (round_half_away x) p in
            let v = natural r h (round_half_away y) q in
            let a : is_out r w (Natural u.0) ≡ false = rw u.1 at p in
            let b : is_out r h (Natural v.0) ≡ false = rw v.1 at q in
            rw (u.1, v.1) (weighed-is u.0 v.0 a b ∙ sym (outcome-in r x y m w h u.0 v.0 u.1 v.1 a b))

seeds-fit : (r : ℕ) (x y : Float) (has-map : Bool) (cells w h : ℕ) → refusal_of r x y has-map cells w h ≡ 0
    → (seed_fits x ≡ true) × (seed_fits y ≡ true)
unfolding refusal_of
seeds-fit r x y has-map cells w h e =
    let clear = all-clear (conditions r x y has-map cells w h) (lit< tt, (lit< tt, (lit< tt, (lit< tt, tt)))) e in
    and_parts (seed_fits x) (seed_fits y) (not-false (seed_fits x && seed_fits y) clear.1.1.1.0)

pub refine-as-published : RefineAsPublished
unfolding refine_rs refined
refine-as-published r x y false m w h weight e max = rw e
refine-as-published r x y true m w h weight e max =
    let sized = map-fits r x y (length m) w h true e refl in
    let fit = seeds-fit r x y true (length m) w h e in
    let f = seed-small x fit.0 in
    let g = seed-small y fit.1 in
    rw (e, round_is x f, round_is y g)
    (outcome-is r x y m w h weight max (radius-small r x y (length m) w h true e) sized.narrow sized.low f g)
