-- The promise of `read_frame` (RULES 11.5).
use Rattle.std.specs.Prelude.{ℕ, ◌≡◌, List, [], ◌∷◌, Result, Ok, Err}
use Rattle.lists.specs.declared.refusal.Refusal.{Refusal}
use Rattle.lists.specs.Buffer.{front}
use Rattle.lists.specs.Refusals.{refusal_with, number_of, values_by}
use Rattle.stream.specs.declared.Header.{Header}
use Rattle.stream.specs.Stream.{Reading, accepted, refused, read_frame}

-- the answer to a reading: its sides and parameters, or its refusal
abbrev pub answer_of : Reading → Result Header Refusal
answer_of (accepted header pixels) = Ok header
answer_of (refused number) = Err (refusal_with number)

-- the values of an answer: sides and parameters in the order of the stream (RULES 11.1)
abbrev pub values_of : Result Header Refusal → List ℕ
values_of =
    values_by (λ h.
    h.width ∷ h.height
    ∷ h.ring ∷ h.threshold_bits ∷ h.window ∷ h.least_neighbours ∷ h.centroid_radius
    ∷ h.merge_bits ∷ h.levels
    ∷ h.minimum_side ∷ h.search_radius
    ∷ [])

-- the buffer after it: the pixels at the start; unchanged if the stream is refused
abbrev pub buffer_after : Reading → List ℕ → List ℕ
buffer_after (accepted header pixels) buffer = front pixels buffer
buffer_after (refused number) buffer = buffer

pub record FrameRead (input buffer : List ℕ) (r : Result Header Refusal) (after : List ℕ) : Type 0 where
  pub answer : r ≡ answer_of (read_frame input)
  pub number : number_of r ≡ number_of (answer_of (read_frame input))
  pub values : values_of r ≡ values_of (answer_of (read_frame input))
  pub pixels : after ≡ buffer_after (read_frame input) buffer
