-- Writing the frame stream (RULES 30): what is refused, and the promise of `write_frame`. The stream itself is
-- `frame_bytes` of stream.
use Rattle.std.specs.Prelude.{ℕ, ◌≡◌, Bool, ◌||◌, List, [], ◌∷◌, length, ltb, Result}
use Rattle.std.specs.Float.{binary32}
use Rattle.std.specs.Float.Ieee.{of_bits}
use Rattle.lists.specs.Buffer.{front}
use Rattle.lists.specs.declared.refusal.Refusal.{Refusal}
use Rattle.lists.specs.Refusals.{lowest, number_of, values_by, judged, values_unless, result_or, is_misfit}
use Rattle.merge_radius.specs.MergeRadius.{radius_outside}
use Rattle.stream.specs.declared.Header.{Header}
use Rattle.frame_params.specs.Ranges.{range_outside}
use Rattle.stream.specs.Stream.{sides_outside}
use Rattle.stream.specs.RoundTrip.{frame_bytes}

-- a value too wide for its field: least, levels and search have a byte, the minimum two (RULES 30.2); the others'
-- ranges are narrower
abbrev pub is_too_wide : Header → Bool
is_too_wide h =
    ltb 255 h.least_neighbours || ltb 255 h.levels || ltb 65535 h.minimum_side || ltb 255
    h.search_radius

-- for a buffer with a given number of places (RULES 30.2)
unfoldable pub conditions : Header → List ℕ → ℕ → List (Bool × ℕ)
conditions h pixels places =
    (sides_outside h.width h.height, 1)
    ∷ (is_misfit (length pixels) h.width h.height, 2)
    ∷ (range_outside h.ring h.window h.centroid_radius || is_too_wide h, 3)
    ∷ (radius_outside (of_bits binary32 h.merge_bits), 5)
    ∷ (ltb places (length (frame_bytes h pixels)), 19)
    ∷ []

unfoldable pub refusal_of : Header → List ℕ → ℕ → ℕ
unfolding conditions
refusal_of h pixels places = lowest (conditions h pixels places)

-- the values of an answer: how long the stream is
abbrev pub values_of : Result ℕ Refusal → List ℕ
values_of = values_by (λ n. n ∷ [])

-- the promise of `write_frame`: the stream is at the start of the buffer, whose rest is unchanged; if refused, all of
-- it is unchanged (RULES 30.3)
pub record FrameWritten (h : Header) (pixels before : List ℕ) (r : Result ℕ Refusal) (after : List ℕ) : Type 0 where
  pub answer : r ≡ judged (refusal_of h pixels (length before)) (length (frame_bytes h pixels))
  pub number : number_of r ≡ refusal_of h pixels (length before)
  pub values : values_of r ≡ values_unless (refusal_of h pixels (length before)) (length (frame_bytes h pixels) ∷ [])
  pub out : after ≡ result_or (refusal_of h pixels (length before)) (front (frame_bytes h pixels) before) before
