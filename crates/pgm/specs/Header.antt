-- The header of a binary PGM photograph (RULES 20), by Netpbm's description: pgm(5), and pbm(5) for comments. The
-- quotations are from there.
use Rattle.std.specs.Prelude.{ℕ, suc, ◌+◌, ◌-◌, ◌*◌, Bool, true, false, cond, not, ◌&&◌, ◌||◌, List, [], ◌∷◌, eqb, leb}
use Rattle.std.specs.Prelude.{get_or, drop}
use Rattle.lists.specs.Places.{any}

-- ---- characters

-- "A "white space" character is space, CR, LF, TAB, VT, or FF"
abbrev pub is_space : ℕ → Bool
is_space c = any (eqb c) (32 ∷ 13 ∷ 10 ∷ 9 ∷ 11 ∷ 12 ∷ [])

-- "ASCII characters in decimal": 0 to 9
abbrev pub is_digit : ℕ → Bool
is_digit c = leb 48 c && leb c 57

-- ---- comments: "any characters from a "#" through the next carriage return or newline character, is a comment and is
-- ignored"

-- a character of the upload, and its place there
pub record Character : Type 0 where
  pub code : ℕ
  pub place : ℕ

-- whether a comment goes on after a character, which is inside one or not
abbrev pub in_comment : Bool → ℕ → Bool
in_comment true c = not (eqb c 13 || eqb c 10)
in_comment false c = eqb c 35

-- the bytes from the place `at` on, which begin inside a comment or not, with the comments removed
unfoldable pub bare : Bool → ℕ → List ℕ → List Character
bare inside at [] = []
bare inside at (c ∷ cs) =
    let more = bare (in_comment inside c) (suc at) cs in
    cond (inside || eqb c 35) more (record { code = c; place = at } ∷ more)

-- ---- a list of characters split by a test
module _ (f : ℕ → Bool) where
  -- whether there is a first one, and it passes
  abbrev pub begins : List Character → Bool
  begins [] = false
  begins (c ∷ cs) = f c.code

  -- those before the first that does not pass, and those from it on
  abbrev pub leading : List Character → List Character
  leading [] = []
  leading (c ∷ cs) = cond (f c.code) (c ∷ leading cs) []

  abbrev pub trailing : List Character → List Character
  trailing [] = []
  trailing (c ∷ cs) = cond (f c.code) (trailing cs) (c ∷ cs)

-- ---- a field: "Whitespace." and a number "in ASCII decimal"

-- the number that n gives with these digits appended
abbrev pub number_from : ℕ → List Character → ℕ
number_from n [] = n
number_from n (c ∷ cs) = number_from (10 * n + (c.code - 48)) cs

-- whether both are there, the number, and what follows its last digit
pub record Field : Type 0 where
  pub there : Bool
  pub number : ℕ
  pub rest : List Character

unfoldable pub field_of : List Character → Field
field_of cs =
    let behind = trailing is_space cs in
    record {
      there = begins is_space cs && begins is_digit behind;
      number = number_from 0 (leading is_digit behind);
      rest = trailing is_digit behind;
    }

-- ---- a header
module _ (upload : List ℕ) where
  -- "the two characters "P5""
  abbrev pub has_magic : Bool
  has_magic = eqb (get_or upload 0 0) 80 && eqb (get_or upload 1 0) 53

  -- "Whitespace", "A width", "Whitespace", "A height", "Whitespace", "The maximum gray value (Maxval)"
  abbrev pub width_field : Field
  width_field = field_of (bare false 2 (drop 2 upload))

  abbrev pub height_field : Field
  height_field = field_of width_field.rest

  abbrev pub maxval_field : Field
  maxval_field = field_of height_field.rest

  abbrev pub width_of : ℕ
  width_of = width_field.number

  abbrev pub height_of : ℕ
  height_of = height_field.number

  abbrev pub maxval_of : ℕ
  maxval_of = maxval_field.number

  -- both sides can be read, whatever follows the height's last digit
  abbrev pub has_sides : Bool
  has_sides = has_magic && (width_field.there && height_field.there)

  -- and the maxval, and "A single whitespace character"
  abbrev pub has_header : Bool
  has_header = has_sides && (maxval_field.there && begins is_space maxval_field.rest)

-- "A raster": after the whitespace character with which these begin
abbrev pub behind_first : List Character → ℕ
behind_first [] = 0
behind_first (c ∷ cs) = suc c.place

abbrev pub raster_at : List ℕ → ℕ
raster_at upload = behind_first (maxval_field upload).rest
