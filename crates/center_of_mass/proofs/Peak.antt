-- A seed at a positive cell is accepted: it is refused by nothing, its window is about that cell, and the cell's weight makes the mass one
-- above 0. Assumes nothing.
use mathlib.Core.Path.{◌≡◌, refl, sym, ap, ◌∙◌, subst}
use mathlib.Core.Bool.{true, false, true≢false}
use mathlib.Core.List.{List}
use mathlib.Core.Logic.{inl}
use Prim.Native.Nat.{ℕ, ◌+◌, ◌-◌, ◌*◌, ◌/◌, ◌≤◌, ◌<◌}
use native.Mathlib.Omega.{arith}
use lib.Dec.{T, lit<}
use lib.ListN.{length, get_or}
use lib.IntN.{pos}
use lib.Ieee.{Float, nan, inf, fin, binary32, lt, le, div, of_int}
use lib.Ieee.Bits.{is_true}
use lib.Ieee.Exact.{HasValue}
use lib.Ieee.Order.{le_of_values}
use Rattle.lists.specs.Limits.{largest_side, largest_radius}
use Rattle.lists.specs.Places.{Place, All}
use Rattle.lists.proofs.Members.{at_block}
use Rattle.float32.specs.Float32.{zero, abs, round_half_away}
use Rattle.float32.specs.declared.Rounded.TheVariants.{Natural}
use Rattle.float32.proofs.Values.{of_int-value}
use Rattle.float32.proofs.HalfAway.{natural-of-value}
use Rattle.float32.proofs.Classes.{lift-above}
use Rattle.float32.proofs.Units.{units_of}
use Rattle.float32.proofs.Running.{exactly}
use Rattle.float32.proofs.Bounds.{nearly-positive-only}
use Rattle.std.specs.Prelude.{Some}
use Rattle.center_of_mass.specs.declared.Outcome.TheVariants.{Accepted}
use Rattle.center_of_mass.specs.CenterOfMass.{weight_at, cells_about, window_sums, furthest_seed, seed_fits, centre_on, refined}
use Rattle.center_of_mass.proofs.Axis.{in_place}
use Rattle.center_of_mass.proofs.Judgement.{none}
use Rattle.center_of_mass.proofs.Outcomes.{with-mass}
use Rattle.center_of_mass.proofs.Weights.{Usual, mass-positive}
use Rattle.center_of_mass.proofs.Range.{Inside, window-few, window-weighs}

-- ---- a seed that is a cell's own place
abs-value : (x : Float) (a c : ℕ) → HasValue x false a c → HasValue (abs x) false a c
unfolding abs
abs-value nan a c h = absurd h
abs-value (inf s) a c h = absurd h
abs-value (fin s m e) a c h = (refl, h.1)

module _ (p : ℕ) (h : p ≤ largest_side) where
  seed-whole : seed_fits (of_int binary32 (pos p)) ≡ true
  unfolding seed_fits
  seed-whole =
      is_true (le (abs (of_int binary32 (pos p))) (of_int binary32 (pos furthest_seed)))
      (le_of_values (abs (of_int binary32 (pos p))) (of_int binary32 (pos furthest_seed)) p 1 furthest_seed 1 (lit< tt) (lit< tt)
      (abs-value (of_int binary32 (pos p)) p 1 (of_int-value binary32 p (omega arith)))
      (of_int-value binary32 furthest_seed (lit< tt)) (omega arith))

  rounds-to-itself : round_half_away (of_int binary32 (pos p)) ≡ Natural p
  rounds-to-itself =
      natural-of-value (of_int binary32 (pos p)) false p 1 (lit< tt) (omega arith) (λ e. absurd (true≢false (sym e)))
      (of_int-value binary32 p (omega arith)) ∙ ap Natural (half p)
    where
      half : (p : ℕ) → (2 * p + 1) / (2 * 1) ≡ p
      half p = omega arith

  pub centre-itself : (r side : ℕ) → r ≤ p → p + r < side → centre_on r side (of_int binary32 (pos p)) ≡ Some p
  unfolding centre_on
  centre-itself r side a b = rw rounds-to-itself (sym (in_place r side p a b))

-- ---- the mass of a window about a positive cell
module _ (r : ℕ) (m : List Float) (w h px py : ℕ) (u : All Usual m) (i : Inside r m w h px py)
    (p : T (lt zero (get_or m (py * w + px) nan))) where
  -- what is known of each place of the window, at its centre
  at-centre : (P : Place → Type 0) → All P (cells_about r px py) → P (record { x = px; y = py })
  at-centre P h = at_block P (px - r) (px + r + 1) (py - r) (py + r + 1) h px py (omega arith) (omega arith) (omega arith) (omega arith)

  peak-mass : T (lt zero (window_sums r m w px py).sw)
  peak-mass =
      let each = window-weighs r m w h px py i u in
      let weight = weight_at m w (record { x = px; y = py }) in
      let above : T (lt zero weight) = subst (λ (z : Float). T (lt zero z)) (lift-above (get_or m (py * w + px) nan) (is_true _ p)) p in
      let some = nearly-positive-only weight (units_of weight) 0 above (exactly weight (units_of weight) (at-centre _ each).0) in
      mass-positive m w (cells_about r px py) (window-few r px py 16 i.radius) each
      (λ none. empty (units_of weight) some (at-centre _ none))
    where
      empty : (n : ℕ) → 0 < n → n ≡ 0 → ⊥
      empty n a b = omega arith

-- a seed at a positive cell, as peak finding gives it, at least r cells from the map's edges
pub peak-accepted : (r : ℕ) (m : List Float) (w h px py : ℕ) → All Usual m → r ≤ largest_radius → w ≤ largest_side → h ≤ largest_side
    → length m ≡ w * h
    → r ≤ px → px + r < w → r ≤ py → py + r < h → T (lt zero (get_or m (py * w + px) nan))
    → (cx : Float) × (cy : Float) × (mass : Float)
    × (refined r (of_int binary32 (pos px)) (of_int binary32 (pos py)) true m w h ≡ Accepted cx cy mass)
unfolding refined
peak-accepted r m w h px py u R W H e X X' Y Y' p =
    let x = of_int binary32 (pos px) in
    let y = of_int binary32 (pos py) in
    let s = window_sums r m w px py in
    let a : px ≤ largest_side = omega arith in
    let b : py ≤ largest_side = omega arith in
    let i : Inside r m w h px py = record { radius = R; across = (X, X'); down = (Y, Y'); sides = (W, H); cells = e } in
    let n = none r x y (length m) w h true (inl (refl, record { narrow = W; low = H; sized = e })) R (sym (seed-whole px a))
    (sym (seed-whole py b)) in (
      div binary32 s.sx s.sw,
      div binary32 s.sy s.sw,
      s.sw,
      rw (← n) (sym (with-mass r x y m w h px py (centre-itself px a r w X X') (centre-itself py b r h Y Y') s refl
          (is_true _ (peak-mass r m w h px py u i p)))),
    )
