-- The outcome in terms that other crates have: by the rounded seed's tests and by running sums. Assumes nothing.
use mathlib.Core.Path.{◌≡◌, refl, sym}
use mathlib.Core.Bool.{Bool, true, false, cond, ◌||◌, true≢false}
use mathlib.Core.List.{List}
use Prim.Native.Nat.{ℕ, ◌-◌}
use lib.Dec.{ltb, leb}
use lib.Ieee.{Float, binary32, div, lt}
use Rattle.float32.specs.Float32.{zero, round_half_away}
use Rattle.float32.specs.declared.Rounded.{Rounded}
use Rattle.float32.specs.declared.Rounded.TheVariants.{Natural, Negative, Beyond}
use Rattle.float32.proofs.Running.{summed}
use Rattle.std.specs.Prelude.{Option, None, Some}
use Rattle.center_of_mass.specs.declared.Outcome.{Outcome}
use Rattle.center_of_mass.specs.declared.Outcome.TheVariants.{Accepted, OutOfBounds, IllConditioned}
use Rattle.center_of_mass.specs.CenterOfMass.{no_sums, weight_at, cells_about, centre_from, centre_on, weighed, outcome_of}
use Rattle.center_of_mass.proofs.Weights.{term, sx-is, sy-is, sw-is}

-- on one axis: no centre for the rounded seed
abbrev pub is_out : ℕ → ℕ → Rounded → Bool
is_out r side (Natural p) = ltb p r || leb (side - r) p
is_out r side (Negative n) = true
is_out r side Beyond = true

-- the outcome of three sums
abbrev pub mean_by : Float → Float → Float → Float → Float → Outcome
mean_by x y sx sy sw = cond (lt zero sw) (Accepted (div binary32 sx sw) (div binary32 sy sw) sw) (IllConditioned x y)

out-placed : (r side : ℕ) (o : Rounded) → is_out r side o ≡ true → centre_from r side o ≡ None
out-placed r side (Natural p) e = rw e
out-placed r side (Negative n) e = refl
out-placed r side Beyond e = refl

module _ (r : ℕ) (x y : Float) (m : List Float) (w h : ℕ) where
  pub outcome-out : (is_out r w (round_half_away x) || is_out r h (round_half_away y)) ≡ true → outcome_of r x y m w h ≡ OutOfBounds x y
  unfolding outcome_of centre_on
  outcome-out e = go (is_out r w (round_half_away x)) (is_out r h (round_half_away y)) refl refl e
    where
      second : (c : Option ℕ) → weighed r x y m w c None ≡ OutOfBounds x y
      second (Some p) = refl
      second None = refl

      go : (a b : Bool) → is_out r w (round_half_away x) ≡ a → is_out r h (round_half_away y) ≡ b → (a || b) ≡ true
          → weighed r x y m w (centre_from r w (round_half_away x)) (centre_from r h (round_half_away y)) ≡ OutOfBounds x y
      go true b p q e = rw (out-placed r w (round_half_away x) p)
      go false true p q e = rw (out-placed r h (round_half_away y) q) (second (centre_from r w (round_half_away x)))
      go false false p q e = absurd (true≢false (sym e))

  pub outcome-in : (p q : ℕ) → round_half_away x ≡ Natural p → round_half_away y ≡ Natural q → is_out r w (Natural p) ≡ false
      → is_out r h (Natural q) ≡ false
      → outcome_of r x y m w h
      ≡ mean_by x y (summed (term m w (λ c. c.x)) zero (cells_about r p q)) (summed (term m w (λ c. c.y)) zero (cells_about r p q))
      (summed (weight_at m w) zero (cells_about r p q))
  unfolding outcome_of centre_on
  outcome-in p q a b c d =
      rw (a, b, c, d, sx-is m w no_sums (cells_about r p q), sy-is m w no_sums (cells_about r p q), sw-is m w no_sums (cells_about r p q))
