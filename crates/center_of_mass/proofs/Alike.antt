-- Two maps that agree in the window of a cell have the same outcome around it. Assumes nothing.
use mathlib.Core.Path.{◌≡◌, refl, ap, ap₂, ◌∙◌}
use mathlib.Core.Bool.{true}
use mathlib.Core.List.{List, [], ◌∷◌}
use Prim.Native.Nat.{ℕ, ◌+◌, ◌-◌, ◌*◌, ◌≤◌, ◌<◌}
use native.Mathlib.Omega.{arith}
use lib.ListN.{length, get_or}
use lib.Ieee.{Float, nan, binary32, add, mul}
use Rattle.lists.specs.Places.{Place, All}
use Rattle.lists.proofs.Members.{all-block}
use Rattle.float32.specs.Float32.{lift, float_of}
use Rattle.center_of_mass.specs.declared.Sums.{Sums}
use Rattle.center_of_mass.specs.declared.Outcome.{Outcome}
use Rattle.center_of_mass.specs.CenterOfMass.{no_sums, with_cell, with_cells, cells_about, mean_of, outcome_of, refusal_of, refined}
use Rattle.center_of_mass.specs.CenterOfMass.{unless_refused}
use Rattle.center_of_mass.proofs.Peak.{centre-itself}

module _ (m m' : List Float) (w : ℕ) where
  -- the cell of column x and row y is the same
  abbrev pub SameAt : ℕ → ℕ → Type 0
  SameAt x y = get_or m (y * w + x) nan ≡ get_or m' (y * w + x) nan

  abbrev with_weight : Sums → Place → Float → Sums
  with_weight s p v = record {
    sx = add binary32 s.sx (mul binary32 (float_of p.x) (lift v));
    sy = add binary32 s.sy (mul binary32 (float_of p.y) (lift v));
    sw = add binary32 s.sw (lift v);
  }

  sums-alike : (s : Sums) (ps : List Place) → All (λ p. SameAt p.x p.y) ps → with_cells m w s ps ≡ with_cells m' w s ps
  unfolding with_cells
  sums-alike s [] h = refl
  sums-alike s (p ∷ ps) h = sums-alike (with_cell m w s p) ps h.1 ∙ ap (λ (v : Float). with_cells m' w (with_weight s p v) ps) h.0

-- a seed at a cell's own place, at least r cells from the map's edges
module _ (r : ℕ) (m m' : List Float) (w h px py : ℕ) (narrow : px ≤ 4096) (low : py ≤ 4096) (long : length m ≡ length m')
    (left : r ≤ px) (right : px + r < w) (top : r ≤ py) (bottom : py + r < h)
    (same : (x y : ℕ) → px ≤ x + r → x ≤ px + r → py ≤ y + r → y ≤ py + r → SameAt m m' w x y) where
  outcome-alike : outcome_of r (float_of px) (float_of py) m w h ≡ outcome_of r (float_of px) (float_of py) m' w h
  unfolding outcome_of
  outcome-alike =
      rw (centre-itself px narrow r w left right, centre-itself py low r h top bottom)
      (ap (mean_of (float_of px) (float_of py))
      (sums-alike m m' w no_sums (cells_about r px py)
      (all-block (λ p. SameAt m m' w p.x p.y) (px - r) (px + r + 1) (py - r) (py + r + 1)
      (λ x y a b c d. same x y (omega arith) (omega arith) (omega arith) (omega arith)))))

  pub refined-alike : refined r (float_of px) (float_of py) true m w h ≡ refined r (float_of px) (float_of py) true m' w h
  unfolding refined
  refined-alike = ap₂ (λ (n : ℕ) (o : Outcome). unless_refused (refusal_of r (float_of px) (float_of py) true n w h) o) long outcome-alike
