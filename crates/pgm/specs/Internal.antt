-- What the private functions that scan a header require and promise. A place of the upload stands for the characters
-- from there on, comments removed.
use Rattle.std.specs.Prelude.{ℕ, ◌-◌, ◌<◌, ◌≤◌, min, ◌≡◌, Bool, true, false, ◌&&◌, List, Option, MatchOption, length}
use Rattle.std.specs.Prelude.{get_or}
use Rattle.std.specs.Prelude.{drop}
use Rattle.pgm.specs.declared.header.Number.{Number}
use Rattle.pgm.specs.declared.header.Sides.{Sides}
use Rattle.pgm.specs.Header.{Character, bare, is_space, is_digit, begins, leading, trailing, number_from, Field}
use Rattle.pgm.specs.Header.{height_field, maxval_field, width_of, height_of, maxval_of, has_sides, raster_at}

-- the largest number that is kept: a larger one is kept as this
abbrev pub largest_kept : ℕ
largest_kept = 65536

abbrev pub capped : ℕ → ℕ
capped n = min n largest_kept

-- the characters from a place on that is in no comment
abbrev pub bare_from : List ℕ → ℕ → List Character
bare_from upload at = bare false at (drop at upload)

-- no comment begins at a place
abbrev pub Plain : List ℕ → ℕ → Type 0
Plain upload at = at < length upload → get_or upload at 0 ≡ 35 → ⊥

-- no comment begins at this place, and the characters cs follow from it on
pub record Reaches (upload : List ℕ) (cs : List Character) (at : ℕ) : Type 0 where
  pub same : bare_from upload at ≡ cs
  pub plain : Plain upload at

-- past the comments that begin at `from`
pub record CommentsSkipped (upload : List ℕ) (from at : ℕ) : Type 0 where
  pub further : from ≤ at
  pub reaches : Reaches upload (bare_from upload from) at

-- the digit at a place, if there is one
pub record DigitHere (upload : List ℕ) (at d : ℕ) : Type 0 where
  pub here : begins is_digit (bare_from upload at) ≡ true
  pub inside : at < length upload
  pub value : d ≡ get_or upload at 0 - 48
  pub few : d ≤ 9

abbrev pub DigitRead : List ℕ → ℕ → Option ℕ → Type 0
DigitRead upload at r = MatchOption r (begins is_digit (bare_from upload at) ≡ false) (λ d. DigitHere upload at d)

-- a number that is there: it is `number`, and `rest` follows it
pub record NumberHere (upload : List ℕ) (there : Bool) (number : ℕ) (rest : List Character) (r : Number) : Type 0 where
  pub there_is : there ≡ true
  pub value : r.value ≡ capped number
  pub end : Reaches upload rest r.end

-- the digits at the start of cs, if there are any
abbrev pub NumberRead : List ℕ → List Character → Option Number → Type 0
NumberRead upload cs r =
    MatchOption r (begins is_digit cs ≡ false)
    (λ n. NumberHere upload (begins is_digit cs) (number_from 0 (leading is_digit cs)) (trailing is_digit cs) n)

-- a field of the header, if it is there
abbrev pub FieldRead : List ℕ → Field → Option Number → Type 0
FieldRead upload field r =
    MatchOption r (field.there ≡ false) (λ n. NumberHere upload field.there field.number field.rest n)

-- both sides, if they can be read
abbrev pub behind_sides : List ℕ → List Character
behind_sides upload = (height_field upload).rest

pub record SidesHere (upload : List ℕ) (s : Sides) : Type 0 where
  pub there : has_sides upload ≡ true
  pub width : s.w ≡ capped (width_of upload)
  pub height : s.h ≡ capped (height_of upload)
  pub end : Reaches upload (behind_sides upload) s.end

abbrev pub SidesRead : List ℕ → Option Sides → Type 0
SidesRead upload r = MatchOption r (has_sides upload ≡ false) (λ s. SidesHere upload s)

-- the maxval, and the place behind the whitespace character that follows it
abbrev pub has_maxval : List ℕ → Bool
has_maxval upload = (maxval_field upload).there && begins is_space (maxval_field upload).rest

pub record MaxvalHere (upload : List ℕ) (r : Number) : Type 0 where
  pub there : has_maxval upload ≡ true
  pub value : r.value ≡ capped (maxval_of upload)
  pub end : r.end ≡ raster_at upload
  pub inside : r.end ≤ length upload

abbrev pub MaxvalRead : List ℕ → Option Number → Type 0
MaxvalRead upload r = MatchOption r (has_maxval upload ≡ false) (λ n. MaxvalHere upload n)
