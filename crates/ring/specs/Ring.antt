-- The rings: the two tables of the detector, and what any ring table must be.
use Rattle.std.specs.Prelude.{ℕ, ◌+◌, ◌*◌, ◌-◌, ◌<◌, ◌≤◌, ◌≡◌, Bool, cond, ◌||◌, List, [], ◌∷◌, map, eqb, length}
use Rattle.std.specs.Prelude.{get_or}

-- A ring around a centre, clockwise from the top. A place (a, b) lies a - radius columns to the right of the centre and
-- b - radius rows below it: both are counted from the corner of the ring's square, so that neither is negative.
pub record Ring : Type 0 where
  pub radius : ℕ
  pub places : List (ℕ × ℕ)

-- the table RING5 of the source
unfoldable pub ring5 : Ring
ring5 =
    record {
      radius = 5;
      places =
          (5, 0) ∷ (7, 0) ∷ (8, 2) ∷ (10, 3) ∷ (10, 5) ∷ (10, 7) ∷ (8, 8) ∷ (7, 10) ∷ (5, 10) ∷ (3, 10) ∷ (2, 8)
          ∷ (0, 7) ∷ (0, 5)
          ∷ (0, 3) ∷ (2, 2) ∷ (3, 0) ∷ [];
    }

-- the table RING10
unfoldable pub ring10 : Ring
ring10 =
    record {
      radius = 10;
      places =
          (10, 0) ∷ (14, 0) ∷ (16, 4) ∷ (20, 6) ∷ (20, 10) ∷ (20, 14) ∷ (16, 16) ∷ (14, 20) ∷ (10, 20) ∷ (6, 20)
          ∷ (4, 16) ∷ (0, 14)
          ∷ (0, 10) ∷ (0, 6) ∷ (4, 4) ∷ (6, 0) ∷ [];
    }

-- a radius of 10 selects the second ring, and every other number the first
unfoldable pub ring_of : ℕ → Ring
unfolding ring5 ring10
ring_of n = cond (eqb n 10) ring10 ring5

-- the radii that a parameter set may have (RULES 1.7)
abbrev pub is_ring : ℕ → Bool
is_ring radius = eqb radius 5 || eqb radius 10

-- the columns and the rows of the places, and those of place k
abbrev pub columns : Ring → List ℕ
columns t = map (λ (p : ℕ × ℕ). p.0) t.places

abbrev pub rows : Ring → List ℕ
rows t = map (λ (p : ℕ × ℕ). p.1) t.places

abbrev pub dx : Ring → ℕ → ℕ
dx t k = get_or (columns t) k 0

abbrev pub dy : Ring → ℕ → ℕ
dy t k = get_or (rows t) k 0

-- how many steps lead from the centre to place k: 0 to the centre itself, 1 to each of its four neighbours
abbrev pub steps : Ring → ℕ → ℕ
steps t k = (dx t k - t.radius) + (t.radius - dx t k) + ((dy t k - t.radius) + (t.radius - dy t k))

-- any ring table of sixteen different places, none in the cross (the centre and its four neighbours) and none beyond
-- its radius either way
pub record IsRing (t : Ring) : Type 0 where
  pub sixteen : length t.places ≡ 16
  pub different : (j k : ℕ) → j < 16 → k < 16 → dx t j ≡ dx t k → dy t j ≡ dy t k → j ≡ k
  pub off_cross : (k : ℕ) → k < 16 → 1 < steps t k
  pub across : (k : ℕ) → k < 16 → dx t k ≤ 2 * t.radius
  pub down : (k : ℕ) → k < 16 → dy t k ≤ 2 * t.radius
