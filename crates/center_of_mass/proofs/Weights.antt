-- The weights of a window's cells, in a map of usual cells: each is a number of units, and the three sums are running sums of them. Assumes
-- nothing.
use mathlib.Core.Path.{◌≡◌, refl, sym}
use mathlib.Core.Bool.{Bool, true, false, cond, true≢false}
use mathlib.Core.List.{List, [], ◌∷◌}
use Prim.Native.Nat.{ℕ, ◌+◌, ◌*◌, ◌^◌, ◌≤◌}
use mathlib.Core.Logic.{⊎_elim}
use native.Mathlib.Nat.{le_trans, lt_of_le_of_lt, mul_comm, mul_left_comm, mul-le-mul, mul-le-mul_right, eq-zero-or-pos}
use native.Mathlib.Omega.{arith}
use lib.Dec.{T, lit<}
use lib.ListN.{length}
use lib.IntN.{ℤ, pos}
use lib.Pow.{pow_pos}
use lib.Ieee.{Float, nan, inf, fin, binary32, low, fits, lt, le, mul, div, of_int}
use lib.Ieee.Bits.{is_true}
use Rattle.lists.specs.Limits.{largest_window}
use Rattle.lists.specs.Places.{Place, All, sum_of}
use Rattle.lists.proofs.Members.{all_map, all_both, sum-weighted, sum-none}
use Rattle.float32.specs.Float32.{zero, lift}
use Rattle.float32.proofs.Values.{of_int-value}
use Rattle.float32.proofs.Units.{Units, units_of, own-units}
use Rattle.float32.proofs.Running.{Nearly, exactly, scale-nearly, summed, summed-nearly}
use Rattle.float32.proofs.Bounds.{UpTo, value-le, whole-over, quotient-upto, nearly-positive, nearly-positive-only}
use Rattle.center_of_mass.specs.declared.Sums.{Sums}
use Rattle.center_of_mass.specs.CenterOfMass.{no_sums, weight_at, with_cell, with_cells}

-- a cell that an `f32` holds, at most 8,192: every response is below that
pub record Usual (x : Float) : Type 0 where
  pub held : T (fits binary32 x)
  pub small : T (le x (of_int binary32 (pos 8192)))

-- ---- one weight: a number of units, at most 8,192
abbrev pub Weighs : Float → Type 0
Weighs y = Units binary32 y (units_of y) × (units_of y ≤ 8192 * 2 ^ low binary32)

plain : (m : ℕ) (e : ℤ) → fits binary32 (fin false m e) ≡ true → T (le (fin false m e) (of_int binary32 (pos 8192)))
    → Weighs (fin false m e)
plain m e f h =
    let top = of_int binary32 (pos 8192) in
    let v = own-units m e f in (
      v,
      value-le (fin false m e) top (units_of (fin false m e)) (8192 * 2 ^ low binary32) (2 ^ low binary32) (pow_pos 149) v
          (whole-over top 8192 (2 ^ low binary32) (of_int-value binary32 8192 (lit< tt))) h,
    )

positive : (x : Float) → lt zero x ≡ true → fits binary32 x ≡ true → T (le x (of_int binary32 (pos 8192))) → Weighs x
unfolding lt le of_int
positive nan p f h = absurd h
positive (inf false) p f h = absurd h
positive (inf true) p f h = absurd (true≢false (sym p))
positive (fin true m e) p f h = absurd (true≢false (sym p))
positive (fin false m e) p f h = plain m e f h

pub weighs : (x : Float) → Usual x → Weighs (lift x)
unfolding lift fits le of_int
weighs x u = go (lt zero x) refl
  where
    go : (b : Bool) → lt zero x ≡ b → Weighs (cond b x zero)
    go true p = positive x p (is_true (fits binary32 x) u.held) u.small
    go false p = plain 0 (pos 0) refl tt

-- ---- the three sums as running sums
module _ (m : List Float) (w : ℕ) where
  abbrev weight : Place → Float
  weight p = weight_at m w p

  abbrev pub term : (Place → ℕ) → Place → Float
  term co p = mul binary32 (of_int binary32 (pos (co p))) (weight_at m w p)

  pub sx-is : (s : Sums) (ps : List Place) → (with_cells m w s ps).sx ≡ summed (term (λ p. p.x)) s.sx ps
  unfolding with_cells summed
  sx-is s [] = refl
  sx-is s (p ∷ ps) = sx-is (with_cell m w s p) ps

  pub sy-is : (s : Sums) (ps : List Place) → (with_cells m w s ps).sy ≡ summed (term (λ p. p.y)) s.sy ps
  unfolding with_cells summed
  sy-is s [] = refl
  sy-is s (p ∷ ps) = sy-is (with_cell m w s p) ps

  pub sw-is : (s : Sums) (ps : List Place) → (with_cells m w s ps).sw ≡ summed weight s.sw ps
  unfolding with_cells summed
  sw-is s [] = refl
  sw-is s (p ∷ ps) = sw-is (with_cell m w s p) ps

  -- ---- against their exact values, over cells whose weights are numbers of units
  abbrev pub units_at : Place → ℕ
  units_at p = units_of (weight_at m w p)

  module _ (ps : List Place) (few : length ps ≤ largest_window) (each : All (λ p. Weighs (weight_at m w p)) ps) where
    pub mass-nearly : Nearly (with_cells m w no_sums ps).sw (sum_of units_at ps) (0 + length ps)
    mass-nearly =
        rw (sw-is no_sums ps)
        (summed-nearly weight units_at 0 (8192 * 2 ^ low binary32) ps (omega arith) (in_all (length ps) (2 ^ low binary32) few)
        (all_map (λ p. Weighs (weight_at m w p)) _ (λ p h. (exactly (weight p) (units_at p) h.0, h.1)) ps each))
      where
        in_all : (n L : ℕ) → n ≤ largest_window → n * (8192 * L) ≤ 2 ^ 60 * L
        in_all n L h = let k : n * L ≤ largest_window * L = mul-le-mul_right L h in
            simp (mul_comm, mul_left_comm) (omega (arith, mul_comm n L))

    module _ (co : Place → ℕ) (M : ℕ) (narrow : M ≤ 4095) (side : All (λ p. co p ≤ M) ps) where
      pub moment-nearly : Nearly (summed (term co) zero ps) (sum_of (λ p. co p * units_at p) ps) (1 + length ps)
      moment-nearly =
          summed-nearly (term co) (λ p. co p * units_at p) 1 (4095 * (8192 * 2 ^ low binary32)) ps (omega arith)
          (in_all (length ps) (2 ^ low binary32) few)
          (all_map (λ p. Weighs (weight_at m w p) × (co p ≤ M)) _ (λ p h. one p h.0 (le_trans h.1 narrow)) ps
          (all_both _ _ ps each side))
        where
          in_all : (n L : ℕ) → n ≤ largest_window → n * (4095 * (8192 * L)) ≤ 2 ^ 60 * L
          in_all n L h = let k : n * L ≤ largest_window * L = mul-le-mul_right L h in
              simp (mul_comm, mul_left_comm) (omega (arith, mul_comm n L))

          in_one : (a L : ℕ) → a ≤ 4095 * (8192 * L) → a ≤ 2 ^ 60 * L
          in_one a L h = omega arith

          one : (p : Place) → Weighs (weight_at m w p) → co p ≤ 4095
              → Nearly (term co p) (co p * units_at p) 1 × (co p * units_at p ≤ 4095 * (8192 * 2 ^ low binary32))
          one p h k =
              let b : co p * units_at p ≤ 4095 * (8192 * 2 ^ low binary32) = mul-le-mul k h.1 in (
                scale-nearly (of_int binary32 (pos (co p))) (weight p) (co p) (units_at p)
                    (of_int-value binary32 (co p) (lt_of_le_of_lt k (lit< tt))) h.0 (in_one (co p * units_at p) (2 ^ low binary32) b),
                b,
              )

      -- a coordinate of the centre of mass
      pub mean-upto : T (lt zero (with_cells m w no_sums ps).sw)
          → UpTo (div binary32 (summed (term co) zero ps) (with_cells m w no_sums ps).sw) (M + 1)
      mean-upto p =
          quotient-upto (summed (term co) zero ps) (with_cells m w no_sums ps).sw (sum_of (λ p. co p * units_at p) ps) (sum_of units_at ps)
          (1 + length ps) (0 + length ps) M
          (nearly-positive-only (with_cells m w no_sums ps).sw (sum_of units_at ps) (0 + length ps) p mass-nearly)
          (sum-weighted (λ p. co p * units_at p) units_at M ps (all_map (λ p. co p ≤ M) _ (λ p h. mul-le-mul_right (units_at p) h) ps side))
          (omega arith) (steps M (length ps) narrow few) (omega arith) moment-nearly mass-nearly
        where
          steps : (M n : ℕ) → M ≤ 4095 → n ≤ largest_window → M * (1 + n + (0 + n)) + (0 + n) ≤ 16775168
          steps M n h k =
              let q : 1 + n + (0 + n) ≤ 2179 = omega arith in
              let p : M * (1 + n + (0 + n)) ≤ 4095 * 2179 = mul-le-mul h q in
              omega arith

    -- the mass is above 0 unless every weight is 0
    pub mass-positive : (All (λ p. units_at p ≡ 0) ps → ⊥) → T (lt zero (with_cells m w no_sums ps).sw)
    mass-positive some =
        nearly-positive (with_cells m w no_sums ps).sw (sum_of units_at ps) (0 + length ps)
        (⊎_elim (λ z. absurd (some (sum-none units_at ps z))) (λ p. p) (eq-zero-or-pos (sum_of units_at ps))) (omega arith) mass-nearly
