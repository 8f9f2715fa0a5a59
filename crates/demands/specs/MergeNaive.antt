-- Request 12 (RULES 31): merging by distance alone beside the merge in use.
use Rattle.std.specs.Prelude.{ℕ, ◌≤◌, min, ◌≡◌, true, Float, Result, Ok}
use Rattle.lists.specs.declared.refusal.Refusal.{Refusal}
use Rattle.lists.specs.Places.{All}
use Rattle.lists.specs.Refusals.{number_of}
use Rattle.corner_list.specs.CornerList.{Slices, places_of, corners_of}
use Rattle.merge_radius.specs.MergeRadius.{is_off}
use Rattle.merge.specs.Merge.{Merges}
use Rattle.merge_naive.specs.MergeNaive.{MergesNaive}
use Rattle.merge_naive.specs.Case.{one, three, two}
use Rattle.merge_alike.specs.Alike.{IsPower, OnMultiples}

-- two calls with one radius and one count, on one buffer as it was before either: of `merge_corners_simple` and of
-- `merge_corners_naive`, each with its promise, word for word
pub record InUseAndNaive : Type 0 where
  pub radius : Float
  pub count : ℕ
  pub before : Slices
  pub in_use : Result ℕ Refusal
  pub in_use_after : Slices
  pub in_use_call : Merges radius (places_of before) count before in_use in_use_after
  pub naive : Result ℕ Refusal
  pub naive_after : Slices
  pub naive_call : MergesNaive radius count before naive naive_after

-- "equal to the one in use whenever all coordinates are multiples of 1/64 and the radius is a power of two from 1/64 to
-- 4,096": answer and buffer, refused or not. The coordinates are those of the counted corners that the buffer has
abbrev pub MergesAlike : Type 0
MergesAlike =
    (m : InUseAndNaive) → IsPower m.radius
    → All OnMultiples (corners_of m.before (min m.count (places_of m.before)))
    → (m.naive ≡ m.in_use) × (m.naive_after ≡ m.in_use_after)

-- "It gives the old merge's refusals in their order", for any list and any radius
abbrev pub RefusesAlike : Type 0
RefusesAlike = (m : InUseAndNaive) → number_of m.naive ≡ number_of m.in_use

-- "and an off radius returns the list", if the buffer has it
abbrev pub OffReturnsList : Type 0
OffReturnsList =
    (m : InUseAndNaive) → is_off m.radius ≡ true → m.count ≤ places_of m.before
    → (m.naive ≡ Ok m.count) × (m.naive_after ≡ m.before)

-- "the case (1−2^-24, 0), (2, 0), (0, 100) with radius 1": at the start of a buffer, "two corners by one and three by
-- the other"
abbrev pub CaseToldApart : Type 0
CaseToldApart =
    (m : InUseAndNaive) → m.radius ≡ one → m.count ≡ 3 → 3 ≤ places_of m.before → corners_of m.before 3 ≡ three
    → ((m.naive ≡ Ok 2) × (corners_of m.naive_after 2 ≡ two))
    × ((m.in_use ≡ Ok 3) × (corners_of m.in_use_after 3 ≡ three))
