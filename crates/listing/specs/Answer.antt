-- The promise of `write_corners` (RULES 12.3).
use Rattle.std.specs.Prelude.{ℕ, ◌≡◌, List, [], ◌∷◌, ◌||◌, length, ltb, Result}
use Rattle.lists.specs.Buffer.{front}
use Rattle.lists.specs.declared.refusal.Refusal.{Refusal}
use Rattle.lists.specs.Refusals.{lowest, number_of, values_by, judged, values_unless, result_or}
use Rattle.corner_list.specs.CornerList.{Slices, places_of, corners_of}
use Rattle.listing.specs.Text.{corners_text}

-- the most corners of a listing (RULES 12.3)
abbrev pub most_corners : ℕ
most_corners = 512

-- 10: the stated count exceeds the places of the buffer, or that
abbrev pub refusal_of : ℕ → ℕ → ℕ
refusal_of places count = lowest ((ltb places count || ltb most_corners count, 10) ∷ [])

-- the values of an answer: the text's length
abbrev pub values_of : Result ℕ Refusal → List ℕ
values_of = values_by (λ n. n ∷ [])

-- the text of the first `count` corners of a buffer is at the start, and the answer is its length; if refused, nothing
-- changes
pub record CornersWritten (b : Slices) (count : ℕ) (buffer : List ℕ) (r : Result ℕ Refusal) (after : List ℕ)
    : Type 0 where
  pub answer : r ≡ judged (refusal_of (places_of b) count) (length (corners_text (corners_of b count)))
  pub number : number_of r ≡ refusal_of (places_of b) count
  pub values : values_of r
      ≡ values_unless (refusal_of (places_of b) count) (length (corners_text (corners_of b count)) ∷ [])
  pub text : after
      ≡ result_or (refusal_of (places_of b) count) (front (corners_text (corners_of b count)) buffer) buffer
