-- A frame stream and what it holds correspond one to one: writing, and what reading gives back.
use Rattle.std.specs.Prelude.{ℕ, zero, suc, ◌-◌, ◌*◌, ◌/◌, ◌%◌, ◌<◌, ◌≡◌, List, [], ◌∷◌, ◌++◌, length, take, drop}
use Rattle.std.specs.Prelude.{replicate}
use Rattle.lists.specs.Places.{All}
use Rattle.stream.specs.declared.Header.{Header}
use Rattle.stream.specs.Stream.{sides_fault, parameters_fault, accepted, records_for, read_frame}

-- ---- writing
abbrev pub bytes16 : ℕ → List ℕ
bytes16 n = n % 256 ∷ n / 256 ∷ []

abbrev pub bytes32 : ℕ → List ℕ
bytes32 n = bytes16 (n % 65536) ++ bytes16 (n / 65536)

abbrev pub sides_bytes : Header → List ℕ
sides_bytes h = bytes16 h.width ++ bytes16 h.height

abbrev pub parameters_bytes : Header → List ℕ
parameters_bytes h =
    (h.ring ∷ bytes32 h.threshold_bits)
    ++ (h.window ∷ h.least_neighbours ∷ h.centroid_radius ∷ bytes32 h.merge_bits)
    ++ (h.levels ∷ bytes16 h.minimum_side)
    ++ (h.search_radius ∷ [])

-- kind 3: 32 pixels in row order, zeros after the last (RULES 11.1)
unfoldable pub pixel_bytes : ℕ → List ℕ → List ℕ
pixel_bytes zero pixels = []
pixel_bytes (suc n) pixels =
    3 ∷ ((take 32 pixels ++ replicate (32 - length pixels) 0) ++ pixel_bytes n (drop 32 pixels))

unfoldable pub frame_bytes : Header → List ℕ → List ℕ
unfolding pixel_bytes
frame_bytes h pixels =
    (1 ∷ sides_bytes h) ++ (2 ∷ parameters_bytes h) ++ pixel_bytes (records_for (length pixels)) pixels ++ (4 ∷ [])

-- ---- statements

-- what a stream may hold: sides and parameters without fault, and as many pixels as the sides say
pub record Accepted (h : Header) (pixels : List ℕ) : Type 0 where
  pub sides : sides_fault h.width h.height ≡ 0
  pub parameters : parameters_fault h.ring h.window h.centroid_radius h.merge_bits ≡ 0
  pub long : length pixels ≡ h.width * h.height

pub record RoundTrip : Type 0 where
  -- what is written for it is read back, whatever follows
  pub frame_back : (h : Header) (pixels rest : List ℕ) → Accepted h pixels
      → read_frame (frame_bytes h pixels ++ rest) ≡ accepted h pixels
  -- nothing else is read from any stream
  pub accepted_good : (s : List ℕ) (h : Header) (pixels : List ℕ) → read_frame s ≡ accepted h pixels → Accepted h pixels
  -- and from no other stream of bytes: up to its end it is the one that is written
  pub accepted_only : (s : List ℕ) (h : Header) (pixels : List ℕ) → read_frame s ≡ accepted h pixels
      → All (λ v. v < 256) s
      → take (length (frame_bytes h pixels)) s ≡ frame_bytes h pixels
