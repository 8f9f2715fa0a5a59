-- neighbors.rs: `is_local_max` and `count_positive_neighbors`.
use Rattle.std.specs.Prelude.{ℕ, ◌≡◌, Bool, cond, not, ◌&&◌, ◌||◌, List, [], ◌∷◌, ℤ, pos, ◌+ℤ◌, Float}
use Rattle.std.specs.Int.Signed.{lt_z, le_z}
use Rattle.std.specs.Float.Ieee.{lt}
use Rattle.lists.specs.Places.{Place, any, count, flat_map}
use Rattle.float32.specs.Float32.{zero}
use Rattle.detect.specs.Peaks.{value_at, window}
use Rattle.published.specs.Rust.{as_usize, eq_z, around}

-- one iteration of their loops: the cell that is looked at, if any
abbrev pub turn_rs : ℕ → ℕ → Place → ℤ → ℤ → List Place
turn_rs w h p dy dx =
    let xx = pos p.x +ℤ dx in
    let yy = pos p.y +ℤ dy in
    cond (eq_z dx (pos 0) && eq_z dy (pos 0)) []
    (cond (lt_z xx (pos 0) || lt_z yy (pos 0) || le_z (pos w) xx || le_z (pos h) yy) []
    (record { x = as_usize xx; y = as_usize yy } ∷ []))

-- the cells that they look at, in their order
unfoldable pub looked_rs : ℕ → ℕ → ℕ → Place → List Place
looked_rs w h r p = flat_map (λ dy. flat_map (turn_rs w h p dy) (around r)) (around r)

-- `is_local_max` for a cell with the value v
abbrev pub is_local_max_rs : List Float → ℕ → ℕ → Place → ℕ → Float → Bool
is_local_max_rs m w h p r v = not (any (λ q. lt v (value_at m w q)) (looked_rs w h r p))

-- `count_positive_neighbors`
abbrev pub count_positive_rs : List Float → ℕ → ℕ → Place → ℕ → ℕ
count_positive_rs m w h p r = count (λ q. lt zero (value_at m w q)) (looked_rs w h r p)

abbrev pub WindowAsPublished : Type 0
WindowAsPublished = (w h r : ℕ) (p : Place) → looked_rs w h r p ≡ window w h r p
