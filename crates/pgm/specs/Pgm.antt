-- What is read from an uploaded photograph (RULES 20): the refusals, the answer, and the pixels as a part of the
-- upload.
use Rattle.std.specs.Prelude.{ℕ, ◌*◌, ◌≡◌, Bool, cond, not, ◌&&◌, ◌||◌, List, [], ◌∷◌, eqb, ltb}
use Rattle.std.specs.Prelude.{length, take, drop, Result}
use Rattle.lists.specs.declared.refusal.Refusal.{Refusal}
use Rattle.lists.specs.Refusals.{lowest, number_of, values_by, judged, values_unless, is_large}
use Rattle.pgm.specs.declared.PgmImage.{PgmImage}
use Rattle.pgm.specs.Header.{has_sides, has_header, width_of, height_of, maxval_of, raster_at}

-- 1: "where both sides can be read behind a right P5 and its whitespace" and one is above the largest; 12: "header not
-- of that form or fewer bytes than width × height behind it"; 13: "maxval any number but 255"
unfoldable pub conditions : List ℕ → List (Bool × ℕ)
conditions upload =
    (has_sides upload && is_large (width_of upload) (height_of upload), 1)
    ∷ (
      not (has_header upload) || ltb (length (drop (raster_at upload) upload)) (width_of upload * height_of upload),
      12,
    )
    ∷ (not (eqb (maxval_of upload) 255), 13)
    ∷ []

-- the lowest number, 0 for none
unfoldable pub refusal_of : List ℕ → ℕ
unfolding conditions
refusal_of upload = lowest (conditions upload)

-- "the image's pixels as a part of the uploaded bytes": none if the upload is refused
unfoldable pub pixels_in : List ℕ → List ℕ
unfolding refusal_of
pixels_in upload =
    cond (eqb (refusal_of upload) 0) (take (width_of upload * height_of upload) (drop (raster_at upload) upload)) []

-- ---- the promise of `read_pgm`

-- an answer's values: where the pixels are, and both sides
abbrev pub values_of : Result PgmImage Refusal → List ℕ
values_of = values_by (λ i. i.at ∷ i.w ∷ i.h ∷ [])

-- where the pixels of an upload are, if it is not refused
abbrev pub image_of : List ℕ → PgmImage
image_of upload = record { at = raster_at upload; w = width_of upload; h = height_of upload }

pub record PgmRead (upload : List ℕ) (r : Result PgmImage Refusal) : Type 0 where
  pub answer : r ≡ judged (refusal_of upload) (image_of upload)
  pub number : number_of r ≡ refusal_of upload
  pub values : values_of r ≡ values_unless (refusal_of upload)
      (raster_at upload ∷ width_of upload ∷ height_of upload ∷ [])
