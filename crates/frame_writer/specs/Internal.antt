-- The contracts of the private functions.
use Rattle.std.specs.Prelude.{ℕ, ◌+◌, ◌-◌, ◌*◌, ◌/◌, ◌%◌, ◌<◌, cond, List, ◌∷◌, ◌++◌, get_or, eqb}
use Rattle.stream.specs.declared.Header.{Header}
use Rattle.stream.specs.Stream.{records_for}
use Rattle.stream.specs.RoundTrip.{sides_bytes, parameters_bytes}

-- how long the stream of a given number of pixels is
abbrev pub length_of : ℕ → ℕ
length_of pixels = 23 + 33 * records_for pixels

-- each field has enough bytes for its value
pub record FieldsFit (h : Header) : Type 0 where
  pub width : h.width < 65536
  pub height : h.height < 65536
  pub ring : h.ring < 256
  pub window : h.window < 256
  pub least_neighbours : h.least_neighbours < 256
  pub centroid_radius : h.centroid_radius < 256
  pub levels : h.levels < 256
  pub minimum_side : h.minimum_side < 65536
  pub search_radius : h.search_radius < 256

-- the records of kinds 1 and 2
abbrev pub head_bytes : Header → List ℕ
head_bytes h = (1 ∷ sides_bytes h) ++ (2 ∷ parameters_bytes h)

-- byte j of the records of kind 3: a byte with the kind before every 32 pixels, and zeros after the last
unfoldable pub record_byte : List ℕ → ℕ → ℕ
record_byte pixels j = cond (eqb (j % 33) 0) 3 (get_or pixels (j / 33 * 32 + j % 33 - 1) 0)
