-- RULES 28.5: what a call of `response_limits` refuses, answers and leaves.
use Rattle.std.specs.Prelude.{ℕ, ◌*◌, ◌≡◌, Bool, not, List, [], ◌∷◌, ltb, length, ℤ, Result}
use Rattle.lists.specs.Buffer.{front}
use Rattle.lists.specs.Places.{any}
use Rattle.lists.specs.Tab.{tab}
use Rattle.lists.specs.declared.refusal.Refusal.{Refusal}
use Rattle.lists.specs.Refusals.{lowest, number_of, values_by, verdict, result_or, is_large, is_misfit}
use Rattle.ring.specs.Ring.{ring_of, is_ring}
use Rattle.response_limits.specs.Limits.{range_at, low_map, high_map}

-- 15: a pixel's low value is above its high one
abbrev pub is_crossed : List ℕ → List ℕ → Bool
is_crossed low high = any (λ r. ltb r.high r.low) (tab (length low) (range_at low high))

-- for two images and two buffers with a given number of places, in this order. 1: a side above the largest; 2: not
-- w * h pixels in either image; 15, directly after 2; 3: a ring that is not 5 or 10; 8: fewer places than cells in
-- either buffer
abbrev pub conditions : List ℕ → List ℕ → ℕ → ℕ → ℕ → ℕ → ℕ → List (Bool × ℕ)
conditions low high w h ring lows highs =
    (is_large w h, 1)
    ∷ (is_misfit (length low) w h, 2)
    ∷ (is_misfit (length high) w h, 2)
    ∷ (is_crossed low high, 15)
    ∷ (not (is_ring ring), 3)
    ∷ (ltb lows (w * h), 8)
    ∷ (ltb highs (w * h), 8)
    ∷ []

unfoldable pub refusal_of : List ℕ → List ℕ → ℕ → ℕ → ℕ → ℕ → ℕ → ℕ
refusal_of low high w h ring lows highs = lowest (conditions low high w h ring lows highs)

-- the values of an answer: the results are in the buffers, so it has none itself
abbrev pub values_of : Result (Unit {0}) Refusal → List ℕ
values_of = values_by (λ done. [])

-- the promise of `response_limits`, for the images `low` and `high` of w by h: the buffers d and e become `lows` and
-- `highs`
pub record LimitsWritten (low high : List ℕ) (w h ring : ℕ) (d e : List ℤ) (r : Result (Unit {0}) Refusal)
    (lows highs : List ℤ) : Type 0 where
  pub answer : r ≡ verdict (refusal_of low high w h ring (length d) (length e))
  pub number : number_of r ≡ refusal_of low high w h ring (length d) (length e)
  pub values : values_of r ≡ []
  pub lows_are : lows ≡ result_or (refusal_of low high w h ring (length d) (length e))
      (front (low_map low high w h (ring_of ring)) d) d
  pub highs_are : highs ≡ result_or (refusal_of low high w h ring (length d) (length e))
      (front (high_map low high w h (ring_of ring)) e) e
