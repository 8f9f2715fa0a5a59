-- The centre of mass of a map's positive cells around a seed: its window, its sums and its outcome, as the Rust
-- computes them in binary32.
use Rattle.std.specs.Prelude.{ℕ, zero, suc, ◌+◌, ◌-◌, ◌*◌, Bool, not, ◌&&◌, ◌||◌, cond, List, [], ◌∷◌, ltb, leb, length}
use Rattle.std.specs.Prelude.{get_or}
use Rattle.std.specs.Prelude.{Float}
use Rattle.std.specs.Float.{nan, binary32}
use Rattle.std.specs.Float.Ieee.{add, mul, div, of_int, lt, le}
use Rattle.lists.specs.Limits.{largest_radius}
use Rattle.lists.specs.Places.{Place, block}
use Rattle.lists.specs.Refusals.{refusal_number, refusal_with, lowest, is_large, is_misfit}
use Rattle.float32.specs.Float32.{zero as zero32, abs, lift, round_half_away, float_of}
use Rattle.float32.specs.declared.Rounded.{Rounded}
use Rattle.float32.specs.declared.Rounded.TheVariants.{Natural, Negative, Beyond}
use Rattle.center_of_mass.specs.declared.Sums.{Sums}
use Rattle.std.specs.Prelude.{Option, None, Some}
use Rattle.center_of_mass.specs.declared.Outcome.{Outcome}
use Rattle.center_of_mass.specs.declared.Outcome.TheVariants.{Accepted, Rejected, OutOfBounds, IllConditioned}
use Rattle.center_of_mass.specs.declared.Outcome.TheVariants.{Refused}

-- ---- the sums, over cells of a map that is w wide
abbrev pub no_sums : Sums
no_sums = record { sx = zero32; sy = zero32; sw = zero32 }

-- a cell's weight: a cell at or below 0 counts 0, and so does a NaN
abbrev pub weight_at : List Float → ℕ → Place → Float
weight_at m w p = lift (get_or m (p.y * w + p.x) nan)

-- the sums with one more cell
abbrev pub with_cell : List Float → ℕ → Sums → Place → Sums
with_cell m w s p = record {
  sx = add binary32 s.sx (mul binary32 (float_of p.x) (weight_at m w p));
  sy = add binary32 s.sy (mul binary32 (float_of p.y) (weight_at m w p));
  sw = add binary32 s.sw (weight_at m w p);
}

-- the sums with the cells at some places added, one after the other
unfoldable pub with_cells : List Float → ℕ → Sums → List Place → Sums
unfolding lift
with_cells m w s [] = s
with_cells m w s (p ∷ ps) = with_cells m w (with_cell m w s p) ps

-- the window of radius r around column cx and row cy, in row order. It lies within the map: the Rust's clamp never acts
-- (`RefineAsPublished` of published)
abbrev pub cells_about : ℕ → ℕ → ℕ → List Place
cells_about r cx cy = block (cx - r) (cx + r + 1) (cy - r) (cy + r + 1)

abbrev pub window_sums : ℕ → List Float → ℕ → ℕ → ℕ → Sums
window_sums r m w cx cy = with_cells m w no_sums (cells_about r cx cy)

-- ---- refusals
-- 4: how far a seed may be from 0, either way
abbrev pub furthest_seed : ℕ
furthest_seed = 1000000

-- finite, and at most that far
unfoldable pub seed_fits : Float → Bool
unfolding abs le of_int
seed_fits x = le (abs x) (float_of furthest_seed)

-- the conditions and their numbers; `cells` is the map's length. 1 and 2 are not checked without a map
abbrev pub conditions : ℕ → Float → Float → Bool → ℕ → ℕ → ℕ → List (Bool × ℕ)
conditions r x y has_map cells w h =
    (has_map && is_large w h, 1)
    ∷ (has_map && is_misfit cells w h, 2)
    ∷ (ltb largest_radius r, 3)
    ∷ (not (seed_fits x && seed_fits y), 4)
    ∷ []

-- the lowest number, 0 for none
unfoldable pub refusal_of : ℕ → Float → Float → Bool → ℕ → ℕ → ℕ → ℕ
refusal_of r x y has_map cells w h = lowest (conditions r x y has_map cells w h)

-- ---- the outcome
-- the window's centre on one axis, from the rounded seed: `None` at x < r and at x ≥ side - r
abbrev pub centre_from : ℕ → ℕ → Rounded → Option ℕ
centre_from r side (Natural p) = cond (ltb p r || leb (side - r) p) None (Some p)
centre_from r side (Negative n) = None
centre_from r side Beyond = None

-- the seed is rounded half away from zero
unfoldable pub centre_on : ℕ → ℕ → Float → Option ℕ
unfolding round_half_away
centre_on r side x = centre_from r side (round_half_away x)

-- the quotients of the sums, if the mass is above 0
abbrev pub mean_of : Float → Float → Sums → Outcome
mean_of x y s =
    cond (lt zero32 s.sw) (Accepted (div binary32 s.sx s.sw) (div binary32 s.sy s.sw) s.sw)
    (IllConditioned x y)

abbrev pub weighed : ℕ → Float → Float → List Float → ℕ → Option ℕ → Option ℕ → Outcome
weighed r x y m w (Some cx) (Some cy) = mean_of x y (window_sums r m w cx cy)
weighed r x y m w (Some cx) None = OutOfBounds x y
weighed r x y m w None c = OutOfBounds x y

-- with a map w wide and h high
unfoldable pub outcome_of : ℕ → Float → Float → List Float → ℕ → ℕ → Outcome
unfolding with_cells centre_on lt
outcome_of r x y m w h = weighed r x y m w (centre_on r w x) (centre_on r h y)

-- the outcome with a number: what is due if it is 0, otherwise the refusal
abbrev pub unless_refused : ℕ → Outcome → Outcome
unless_refused zero due = due
unless_refused (suc number) due = Refused (refusal_with (suc number))

-- refusals come before outcomes
unfoldable pub refined : ℕ → Float → Float → Bool → List Float → ℕ → ℕ → Outcome
unfolding refusal_of outcome_of
refined r x y has_map m w h =
    unless_refused (refusal_of r x y has_map (length m) w h) (cond has_map (outcome_of r x y m w h) (Rejected x y))

-- ---- the number and the values of each case (RULES 5.3): 0 for no refusal; x, y and the mass, which is 0 if the seed
-- did not move
abbrev pub number_of : Outcome → ℕ
number_of (Accepted x y m) = 0
number_of (Rejected x y) = 0
number_of (OutOfBounds x y) = 0
number_of (IllConditioned x y) = 0
number_of (Refused e) = refusal_number e

abbrev pub values_of : Outcome → List Float
values_of (Accepted x y m) = x ∷ y ∷ m ∷ []
values_of (Rejected x y) = x ∷ y ∷ zero32 ∷ []
values_of (OutOfBounds x y) = x ∷ y ∷ zero32 ∷ []
values_of (IllConditioned x y) = x ∷ y ∷ zero32 ∷ []
values_of (Refused e) = []
