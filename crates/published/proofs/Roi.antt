-- The box of a seed is the published one: 1 / 2^-k is 2^k, a search radius over 2^-k is whole, and the tests of integers are those of
-- natural numbers. Assumes nothing.
use mathlib.Core.Path.{◌≡◌, refl, sym, ap, ap₂, ◌∙◌}
use mathlib.Core.Bool.{Bool, true, false, cond, ◌||◌, true≢false}
use Prim.Native.Nat.{ℕ, zero, suc, ◌+◌, ◌-◌, ◌*◌, ◌/◌, ◌^◌, ◌≤◌, ◌<◌, max}
use native.Mathlib.Decide.{dec_lt}
use native.Mathlib.Nat.{one-mul, mul-one, mul-le-mul, le_trans, lt_of_le_of_lt, mul-add-div_right, div-eq_of_lt}
use native.Mathlib.Omega.{arith}
use lib.Dec.{ltb, leb, lit<, lit≤}
use lib.IntN.{ℤ, pos, ◌-ℤ◌}
use lib.Signed.{le_z}
use lib.Pow.{pow_pos, pow_mono}
use lib.Ieee.{Float, nan, inf, fin, binary32, up, down, of_int, mul, div, lt, le}
use lib.Ieee.Fits.{down_pos}
use lib.Ieee.Back.{round_whole}
use lib.Ieee.Exact.{HasValue}
use borrow.Author.Tests.{lt-ltb, le-ltb, leb-false, not-false}
use Rattle.std.specs.Prelude.{Option, None, Some, Ok}
use Rattle.lists.proofs.Tests.{from-T, or_right}
use Rattle.lists.proofs.Refusals.{all-clear}
use Rattle.float32.specs.Float32.{zero as zero32, abs, nearest_whole, signed, largest_rounded, judged, round_half_away}
use Rattle.float32.specs.declared.Rounded.TheVariants.{Natural}
use Rattle.float32.proofs.Values.{of_int-value}
use Rattle.float32.proofs.Bounds.{div-round, whole-over}
use Rattle.corner_list.specs.declared.Corner.{Corner}
use Rattle.corner_list.specs.CornerList.{is_inside}
use Rattle.corner_list.proofs.Inside.{inside-parts}
use Rattle.multiscale.specs.declared.RoiContext.{RoiContext}
use Rattle.multiscale.specs.declared.Roi.{Roi}
use Rattle.multiscale.specs.Multiscale.{conditions, refusal_of, border, roi_radius, centre_of, low_end, high_end}
use Rattle.multiscale.specs.Internal.{SoundContext}
use Rattle.multiscale.proofs.Contexts.{sound}
use Rattle.multiscale.proofs.Centre.{centre-is}
use Rattle.multiscale.proofs.Told.{is_off, roi-told}
use Rattle.published.specs.Rust.{as_usize, ceil_f, cut_i32, whole_float, up_to, max_z}
use Rattle.published.specs.PyramidRs.{one32, scale_of}
use Rattle.published.specs.MultiscaleRs.{ContextRs, border_rs, context_rs, centre_rs, low_rs, high_rs, roi_rs, RoiAsPublished}
use Rattle.published.proofs.Integers.{sub_low, sub-high, minus_is, up-to}
use Rattle.published.proofs.Rounds.{cut-whole, round_is}

-- ---- scales
scale-value : (k : ℕ) → HasValue (scale_of k) false 1 (2 ^ k)
scale-value zero = (refl, refl)
scale-value (suc k) = (refl, refl)

-- a whole number over 2^-k
over-scale : (x : Float) (n k : ℕ) → HasValue x false n 1 → div binary32 x (scale_of k) ≡ whole_float false (n * 2 ^ k)
over-scale x n k h =
    div-round binary32 x (scale_of k) (n * 2 ^ k) 1 (2 ^ k) (pow_pos k) (lit< tt) (whole-over x n (2 ^ k) h) (scale-value k)

inverse-is : (k : ℕ) → div binary32 one32 (scale_of k) ≡ of_int binary32 (pos (2 ^ k))
unfolding of_int
inverse-is k = over-scale one32 1 k (refl, refl) ∙ ap (whole_float false) (one-mul (2 ^ k))

-- a whole number is its own ceiling
ceil-whole : (v : Float) (n : ℕ) → HasValue v false n 1 → ceil_f v ≡ whole_float false n
unfolding ceil_f
ceil-whole nan n h = absurd h
ceil-whole (inf s) n h = absurd h
ceil-whole (fin true m e) n h = absurd (true≢false h.0)
ceil-whole (fin false m e) n h = ap (whole_float false) (whole-up (m * up e) (down e) (down_pos e) (sym (mul-one (m * up e)) ∙ h.1))
  where
    whole-up : (a d : ℕ) → 0 < d → a ≡ n * d → up_to a d ≡ n
    whole-up a d p e =
        let none : (d - 1) / d ≡ 0 = div-eq_of_lt (omega arith) in
        rw (e, mul-add-div_right p n (d - 1), none) (omega arith)

-- "ceil(search / scale)": the search radius in the base's pixels
pub search_is : (search k : ℕ) → search ≤ 255 → k ≤ 12
    → cut_i32 (ceil_f (div binary32 (of_int binary32 (pos search)) (scale_of k))) ≡ pos (search * 2 ^ k)
search_is search k l h =
    let small : search * 2 ^ k ≤ 2 ^ 24 = le_trans (mul-le-mul l (pow_mono {j = 12} h)) (lit≤ tt) in
    let over = over-scale (of_int binary32 (pos search)) search k (of_int-value binary32 search (lt_of_le_of_lt l (lit< tt))) in
    let ceil = ceil-whole (whole_float false (search * 2 ^ k)) (search * 2 ^ k) (round_whole binary32 false (search * 2 ^ k) small) in
    rw (over, ceil) (cut-whole false (search * 2 ^ k) small)

-- ---- the context
larger : (a b : ℕ) → max_z (pos a) (pos b) ≡ pos (max a b)
larger a b = elim (dec_lt a b) [
  | yes l ↦ rw (lt-ltb a b l) (ap pos (omega arith))
  | no g ↦ rw (le-ltb a b (omega arith)) (ap pos (omega arith))
]

abbrev context : RoiContext → ContextRs
context c =
    record {
      inv_scale = of_int binary32 (pos (2 ^ c.level));
      border = pos (border c);
      safe_margin = pos (border c + 1);
      roi_r = pos (roi_radius c);
      base_w = pos c.width;
      base_h = pos c.height;
    }

context-is : (c : RoiContext) → SoundContext c
    → context_rs c.width c.height (scale_of c.level) (border_rs c.ring c.window) (pos c.centroid_radius)
    c.search_radius ≡ context c
unfolding context_rs roi_radius
context-is c s =
    rw (le-ltb (c.ring + c.window) 0 (omega arith), le-ltb (c.ring + c.window + c.centroid_radius) 0 (omega arith))
    (ap₂ with-sizes (inverse-is c.level)
    (ap (λ (n : ℤ). max_z n (pos (border c + 2))) (search_is c.search_radius c.level s.search_radius s.level)
    ∙ larger (c.search_radius * 2 ^ c.level) (border c + 2)))
  where
    with-sizes : Float → ℤ → ContextRs
    with-sizes inverse radius =
        record {
          inv_scale = inverse;
          border = pos (border c);
          safe_margin = pos (border c + 1);
          roi_r = radius;
          base_w = pos c.width;
          base_h = pos c.height;
        }

-- ---- the centre
judged-small : (v : Float) (p : ℕ) → round_half_away v ≡ Natural p → le (abs v) largest_rounded ≡ true
unfolding round_half_away
judged-small v p e = go (le (abs v) largest_rounded) refl e
  where
    go : (b : Bool) → le (abs v) largest_rounded ≡ b → judged b (signed (lt v zero32) (nearest_whole v)) ≡ Natural p
        → le (abs v) largest_rounded ≡ true
    go true q e = q
    go false q e = absurd (let z : ◌≡◌ {A = ℕ} 0 1 = cc in omega arith)

centre-told : (c : RoiContext) (x : Float) (p : ℕ) → centre_of c.level x ≡ Natural p → centre_rs (context c) x ≡ pos p
unfolding centre_of
centre-told c x p e = let v = mul binary32 x (of_int binary32 (pos (2 ^ c.level))) in rw (round_is v (judged-small v p e), e)

-- ---- one axis
module _ (c : RoiContext) (side p : ℕ) where
  abbrev b : ℕ
  b = border c

  abbrev r : ℕ
  r = roi_radius c

  low-is : low_rs (context c) (pos p) ≡ pos (low_end b r p)
  low-is = rw (minus_is p r) (elim (dec_lt p r) [
    | yes l ↦ rw (sub_low p r l) (ap pos (omega arith))
    | no g ↦ rw (sub-high p r (omega arith)) (elim (dec_lt (p - r) b) [
      | yes l ↦ rw (lt-ltb (p - r) b l) (ap pos (omega arith))
      | no k ↦ rw (le-ltb (p - r) b (omega arith)) (ap pos (omega arith))
    ])
  ])

  high_is : p + (b + 1) < side → high_rs (context c) (pos side) (pos p) ≡ pos (high_end b r side p)
  high_is h = rw (minus_is side b, sub-high side b (omega arith)) (elim (dec_lt (side - b) (p + r + 1)) [
    | yes l ↦ rw (lt-ltb (side - b) (p + r + 1) l) (ap pos (omega arith))
    | no k ↦ rw (le-ltb (side - b) (p + r + 1) (omega arith)) (ap pos (omega arith))
  ])

-- ---- both
difference : (a b n : ℕ) → le_z (pos a -ℤ pos b) (pos n) ≡ leb (a - b) n
difference a b n = rw (minus_is a b) (up-to a b n)

module _ (c : RoiContext) (p q : ℕ) where
  abbrev low : ℕ → ℕ
  low n = low_end (border c) (roi_radius c) n

  abbrev high : ℕ → ℕ → ℕ
  high side n = high_end (border c) (roi_radius c) side n

  abbrev box : Option Roi
  box = Some (record { x0 = low p; y0 = low q; x1 = high c.width p; y1 = high c.height q })

  abbrev narrow : ℕ → ℕ → Bool
  narrow side n = leb (high side n - low n) (2 * border c)

  abbrev sized : Option Roi
  sized =
      let x0 = low_rs (context c) (pos p) in
      let y0 = low_rs (context c) (pos q) in
      let x1 = high_rs (context c) (pos c.width) (pos p) in
      let y1 = high_rs (context c) (pos c.height) (pos q) in
      cond (le_z (x1 -ℤ x0) (pos (2 * border c)) || le_z (y1 -ℤ y0) (pos (2 * border c))) None
      (Some (record { x0 = as_usize x0; y0 = as_usize y0; x1 = as_usize x1; y1 = as_usize y1 }))

  sized-is : p + (border c + 1) < c.width → q + (border c + 1) < c.height
      → sized ≡ cond (narrow c.width p || narrow c.height q) None box
  sized-is k l =
      rw (low-is c c.width p, low-is c c.height q, high_is c c.width p k, high_is c c.height q l)
      (rw (difference (high c.width p) (low p) (2 * border c), difference (high c.height q) (low q) (2 * border c)))

  abbrev margin : ℕ
  margin = border c + 1

  tests-are : cond (ltb p margin || ltb q margin || le_z (pos c.width -ℤ pos margin) (pos p) || le_z
      (pos c.height -ℤ pos margin) (pos q)) None sized
      ≡ cond (is_off (border c) (roi_radius c) c.width p || is_off (border c) (roi_radius c) c.height q) None box
  tests-are =
      rw (difference c.width margin p, difference c.height margin q)
      (go (ltb p margin) (ltb q margin) (leb (c.width - margin) p) (leb (c.height - margin) q) refl refl)
    where
      go : (a a' d d' : Bool) → leb (c.width - margin) p ≡ d → leb (c.height - margin) q ≡ d'
          → cond (a || a' || d || d') None sized
          ≡ cond ((a || (d || narrow c.width p)) || (a' || (d' || narrow c.height q))) None box
      go true a' d d' s t = refl
      go false true d d' s t = rw (or_right (d || narrow c.width p))
      go false false true d' s t = refl
      go false false false true s t = rw (or_right (narrow c.width p))
      go false false false false s t =
          sized-is (omega (arith, leb-false (c.width - margin) p s)) (omega (arith, leb-false (c.height - margin) q t))

seed-inside : (c : RoiContext) (s : Corner) → refusal_of c s ≡ 0 → is_inside s ≡ true
unfolding refusal_of
seed-inside c s e = not-false (is_inside s) (all-clear (conditions c s) (lit< tt, (lit< tt, (lit< tt, tt))) e).1.1.0

pub roi-as-published : RoiAsPublished
unfolding roi_rs
roi-as-published c s fx fy e =
    let k = sound c s e in
    let inside = inside-parts s (seed-inside c s e) in
    let column = centre-is s.x c.level (from-T _ fx) inside.0 k.level in
    let row = centre-is s.y c.level (from-T _ fy) inside.1 k.level in
    rw (context-is c k, centre-told c s.x _ column, centre-told c s.y _ row)
    (roi-told c s _ _ e column row ∙ ap Ok (sym (tests-are c _ _)))
