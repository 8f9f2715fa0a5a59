-- The box of the base image in which a seed of a coarser level is looked for again (`RoiContext::compute_roi` and
-- `make_roi_context`).
use Rattle.std.specs.Prelude.{ℕ, ◌+◌, ◌-◌, ◌*◌, ◌^◌, min, max, Bool, cond, not, ◌&&◌, ◌||◌, List, [], ◌∷◌, leb, ltb}
use Rattle.std.specs.Prelude.{Float, Option, None, Some, Result}
use Rattle.std.specs.Float.{binary32}
use Rattle.std.specs.Float.Ieee.{mul}
use Rattle.lists.specs.Limits.{largest_radius, largest_search, last_level}
use Rattle.lists.specs.declared.refusal.Refusal.{Refusal}
use Rattle.lists.specs.Refusals.{judged, lowest, is_large, values_by}
use Rattle.float32.specs.Float32.{round_half_away, float_of}
use Rattle.float32.specs.declared.Rounded.{Rounded}
use Rattle.float32.specs.declared.Rounded.TheVariants.{Natural, Negative, Beyond}
use Rattle.ring.specs.Ring.{is_ring}
use Rattle.corner_list.specs.CornerList.{is_inside}
use Rattle.corner_list.specs.declared.Corner.{Corner}
use Rattle.multiscale.specs.declared.RoiContext.{RoiContext}
use Rattle.multiscale.specs.declared.Roi.{Roi}

-- ---- refusals
-- window, centroid and search radius at most the largest, a level up to the last, and a ring of 5 or 10
unfoldable pub parameters_fit : RoiContext → Bool
parameters_fit c =
    leb c.window largest_radius && (leb c.centroid_radius largest_radius
    && (leb c.search_radius largest_search && (leb c.level last_level && is_ring c.ring)))

-- the conditions and their numbers
abbrev pub conditions : RoiContext → Corner → List (Bool × ℕ)
conditions c s =
    (is_large c.width c.height, 1)
    ∷ (not (parameters_fit c), 3)
    ∷ (not (is_inside s), 4)
    ∷ []

-- the lowest number, 0 for none
unfoldable pub refusal_of : RoiContext → Corner → ℕ
unfolding parameters_fit is_inside
refusal_of c s = lowest (conditions c s)

-- ---- the sizes
-- as far as ring, window and centroid reach
abbrev pub border : RoiContext → ℕ
border c = c.ring + c.window + c.centroid_radius

-- the box's radius: the search radius in the base's pixels, and at least two more than the border
unfoldable pub roi_radius : RoiContext → ℕ
roi_radius c = max (c.search_radius * 2 ^ c.level) (border c + 2)

-- ---- one axis
-- a seed's coordinate in the base, rounded half away from zero
unfoldable pub centre_of : ℕ → Float → Rounded
unfolding round_half_away
centre_of level x = round_half_away (mul binary32 x (float_of (2 ^ level)))

-- r pixels both ways from a centre c, clipped to the border b
abbrev pub low_end : ℕ → ℕ → ℕ → ℕ
low_end b r c = max b (c - r)

abbrev pub high_end : ℕ → ℕ → ℕ → ℕ → ℕ
high_end b r side c = min (c + r + 1) (side - b)

-- none if centre < border + 1, centre ≥ side − (border + 1), or the span is at most 2·border wide
unfoldable pub span_about : ℕ → ℕ → ℕ → ℕ → Option (ℕ × ℕ)
span_about b r side c =
    cond (ltb c (b + 1) || (leb (side - (b + 1)) c || leb (high_end b r side c - low_end b r c) (2 * b)))
    None (Some (low_end b r c, high_end b r side c))

abbrev pub span_at : ℕ → ℕ → ℕ → Rounded → Option (ℕ × ℕ)
span_at b r side (Natural c) = span_about b r side c
span_at b r side (Negative n) = None
span_at b r side Beyond = None

unfoldable pub span_on : RoiContext → ℕ → Float → Option (ℕ × ℕ)
unfolding roi_radius centre_of span_about
span_on c side x = span_at (border c) (roi_radius c) side (centre_of c.level x)

-- ---- the answer
abbrev pub bounds : Option (ℕ × ℕ) → Option (ℕ × ℕ) → Option Roi
bounds (Some x) (Some y) = Some (record { x0 = x.0; y0 = y.0; x1 = x.1; y1 = y.1 })
bounds (Some x) None = None
bounds None y = None

unfoldable pub roi_of : RoiContext → Corner → Result (Option Roi) Refusal
unfolding refusal_of span_on
roi_of c s = judged (refusal_of c s) (bounds (span_on c c.width s.x) (span_on c c.height s.y))

-- ---- the values of an answer (RULES 7.3): the box's ends, none if there is no box
abbrev pub ends_of : Option Roi → List ℕ
ends_of (Some b) = b.x0 ∷ b.y0 ∷ b.x1 ∷ b.y1 ∷ []
ends_of None = []

abbrev pub values_of : Result (Option Roi) Refusal → List ℕ
values_of = values_by ends_of
