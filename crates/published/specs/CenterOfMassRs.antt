-- center_of_mass.rs: `CenterOfMassRefiner::refine`, without covariance.
use Rattle.std.specs.Prelude.{ℕ, ◌+◌, ◌*◌, ◌≡◌, Bool, cond, not, ◌||◌, List, [], ◌∷◌, ℤ, pos, ◌+ℤ◌, ◌-ℤ◌, length}
use Rattle.std.specs.Prelude.{get_or, Float}
use Rattle.std.specs.Int.Signed.{lt_z, le_z}
use Rattle.std.specs.Float.{nan, binary32}
use Rattle.std.specs.Float.Ieee.{of_int, add, mul, div, lt}
use Rattle.lists.specs.Places.{Place, flat_map}
use Rattle.float32.specs.Float32.{zero}
use Rattle.center_of_mass.specs.declared.Outcome.{Outcome}
use Rattle.center_of_mass.specs.declared.Outcome.TheVariants.{Accepted, Rejected, OutOfBounds, IllConditioned}
use Rattle.center_of_mass.specs.CenterOfMass.{refusal_of, refined}
use Rattle.published.specs.Rust.{as_usize, clamp_z, around, round_f, cut_i32, IsMax}

-- one iteration of its loops: the cell that is weighed
abbrev pub weighed_rs : ℕ → ℕ → ℤ → ℤ → ℤ → ℤ → Place
weighed_rs w h x y dy dx =
    record {
      x = as_usize (clamp_z (x +ℤ dx) (pos 0) (pos w -ℤ pos 1));
      y = as_usize (clamp_z (y +ℤ dy) (pos 0) (pos h -ℤ pos 1));
    }

-- the cells in their order
unfoldable pub cells_rs : ℕ → ℕ → ℕ → ℤ → ℤ → List Place
cells_rs r w h x y = flat_map (λ dy. flat_map (λ dx. weighed_rs w h x y dy dx ∷ []) (around r)) (around r)

-- `sum += term`, cell by cell
unfoldable pub sum_rs : (Place → Float) → Float → List Place → Float
sum_rs term sum [] = sum
sum_rs term sum (p ∷ ps) = sum_rs term (add binary32 sum (term p)) ps

-- `refine` for a seed, where `resp.at(..).max(0.0)` of a cell gives its weight
unfoldable pub refine_rs : ℕ → Float → Float → Bool → (Place → Float) → ℕ → ℕ → Outcome
refine_rs r seed-x seed-y has-map weight w h =
    let x = cut_i32 (round_f seed-x) in
    let y = cut_i32 (round_f seed-y) in
    let cells = cells_rs r w h x y in
    let sx = sum_rs (λ p. mul binary32 (of_int binary32 (pos p.x)) (weight p)) zero cells in
    let sy = sum_rs (λ p. mul binary32 (of_int binary32 (pos p.y)) (weight p)) zero cells in
    let sw = sum_rs weight zero cells in
    cond (not has-map) (Rejected seed-x seed-y)
    (cond (lt_z x (pos r) || lt_z y (pos r) || le_z (pos w -ℤ pos r) x || le_z (pos h -ℤ pos r) y)
    (OutOfBounds seed-x seed-y)
    (cond (lt zero sw) (Accepted (div binary32 sx sw) (div binary32 sy sw) sw) (IllConditioned seed-x seed-y)))

-- a call that is not refused, whatever `max` gives
abbrev pub RefineAsPublished : Type 0
RefineAsPublished =
    (r : ℕ) (x y : Float) (has-map : Bool) (m : List Float) (w h : ℕ) (weight : Place → Float)
    → refusal_of r x y has-map (length m) w h ≡ 0
    → ((p : Place) → IsMax (get_or m (p.y * w + p.x) nan) zero (weight p))
    → refine_rs r x y has-map weight w h ≡ refined r x y has-map m w h
