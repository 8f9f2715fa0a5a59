-- RULES 27.4: what a call of `retouch` refuses, answers and leaves.
use Rattle.std.specs.Prelude.{ℕ, ◌≡◌, Bool, not, ◌||◌, List, [], ◌∷◌, leb, length, Float, Result}
use Rattle.lists.specs.Places.{Place}
use Rattle.lists.specs.declared.refusal.Refusal.{Refusal}
use Rattle.lists.specs.Refusals.{lowest, number_of, values_by, values_unless, judged, result_or, is_large, is_misfit}
use Rattle.ring.specs.Ring.{ring_of, is_ring}
use Rattle.retouch.specs.Retouch.{touched_count, changed, redone}

-- 14: the place is not in an image of w by h
abbrev pub place_outside : ℕ → ℕ → Place → Bool
place_outside w h q = leb w q.x || leb h q.y

-- for an image with a given number of pixels and a map with a given number of cells. 1: a side above the largest; 2:
-- not w * h pixels, or not w * h cells; 3: a ring that is not 5 or 10; 14: a place outside
abbrev pub conditions : ℕ → ℕ → ℕ → ℕ → ℕ → Place → List (Bool × ℕ)
conditions pixels cells w h ring q =
    (is_large w h, 1) ∷ (is_misfit pixels w h || is_misfit cells w h, 2) ∷ (not (is_ring ring), 3)
    ∷ (place_outside w h q, 14) ∷ []

unfoldable pub refusal_of : ℕ → ℕ → ℕ → ℕ → ℕ → Place → ℕ
refusal_of pixels cells w h ring q = lowest (conditions pixels cells w h ring q)

-- the values of an answer: how many cells were recomputed
abbrev pub values_of : Result ℕ Refusal → List ℕ
values_of = values_by (λ cells. cells ∷ [])

-- the promise of `retouch`, for the pixel q of an image of w by h and its new value: the image becomes `image`, and the
-- map `map`; both are unchanged if the call is refused
pub record Retouches (w h ring : ℕ) (q : Place) (value : ℕ) (img : List ℕ) (m : List Float) (r : Result ℕ Refusal)
    (img' : List ℕ) (m' : List Float) : Type 0 where
  pub answer : r ≡ judged (refusal_of (length img) (length m) w h ring q)
      (touched_count w h (ring_of ring) q)
  pub number : number_of r ≡ refusal_of (length img) (length m) w h ring q
  pub values : values_of r ≡ values_unless (refusal_of (length img) (length m) w h ring q)
      (touched_count w h (ring_of ring) q ∷ [])
  pub image : img' ≡ result_or (refusal_of (length img) (length m) w h ring q) (changed img w q value) img
  pub map : m' ≡ result_or (refusal_of (length img) (length m) w h ring q)
      (redone (changed img w q value) w h (ring_of ring) q m) m
