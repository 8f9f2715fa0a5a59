-- The contracts of private functions: no public promise depends on them.
use Rattle.std.specs.Prelude.{ℕ, ◌+◌, ◌*◌, ◌/◌, ◌%◌, ◌<◌, ◌≤◌, ◌≡◌, ◌⊎◌, List, map, Bool, true, length, get_or}
use Rattle.std.specs.Prelude.{Option, None, Some}
use Rattle.std.specs.Prelude.{drop, Float}
use Rattle.std.specs.Float.{binary32}
use Rattle.std.specs.Float.Ieee.{to_bits}
use Rattle.corner_list.specs.declared.Corner.{Corner}
use Rattle.corner_list.specs.declared.buffer.CornerView.{CornerView}
use Rattle.corner_list.specs.CornerList.{Slices, corners_of, front_corners}
use Rattle.merge_grid.specs.declared.Grid.{Grid}
use Rattle.merge_grid.specs.declared.Position.{Position}
use Rattle.merge_grid.specs.Grid.{position_at, column_of, row_of, meets}
use Rattle.merge_settle.specs.Settle.{settle, merged, given}
use Rattle.merge_settle.specs.declared.settling.Step.{Step}

-- ---- The index of the kept corners by their cells: a table of slots, each either empty or holding a place of the
-- buffer.

-- A table is a slice of floats, so that a buffer of floats can be one: a slot holds a number as its 32 bits
abbrev pub slots_of : List Float → List ℕ
slots_of table = map (to_bits binary32) table

-- what an empty slot holds, the bits of 1.0; no place that is listed is as large
abbrev pub empty : ℕ
empty = 0x3f80_0000

-- cells are grouped in pairs, across and down: cell 0, then 1 and 2, 3 and 4. So cell n and those adjacent to it lie
-- in pair n / 2 or in the next
abbrev pub pair_of : ℕ → ℕ
pair_of n = (n + 1) / 2

-- The home, among a given number of slots, of the cells in pair x across and pair y down. Any function would do; this
-- one, the middle digits of a square, spreads rows and boards well.
abbrev pub mix_of : ℕ → ℕ → ℕ
mix_of x y = x % 65536 * 40503 + y % 65536 * 51749

unfoldable pub home_of : ℕ → ℕ → ℕ → ℕ
home_of slots x y = mix_of x y % 4294967296 * (mix_of x y % 4294967296) / 262144 % slots

-- the home of a corner, by its position
abbrev pub home_at : Grid → ℕ → Position → ℕ
home_at g slots p = home_of slots (pair_of (column_of g p)) (pair_of (row_of g p))

-- a search of the slots from `home` on, up to the first that is empty, finds place i or reaches the end of the table
pub record PlaceListed (table : List ℕ) (home i : ℕ) : Type 0 where
  pub slot : ℕ
  pub from : home ≤ slot
  pub full : (q : ℕ) → home ≤ q → q < slot → get_or table q 0 ≡ empty → ⊥
  pub here : (length table ≤ slot) ⊎ (get_or table slot 0 ≡ i)

-- slot p is where to list a place: the first from `home` on that is empty or holds it, or the end of the table
pub record SlotFor (table : List ℕ) (home place p : ℕ) : Type 0 where
  pub from : home ≤ p
  pub full : (q : ℕ) → home ≤ q → q < p → get_or table q 0 ≡ empty → ⊥
  pub here : (length table ≤ p) ⊎ ((get_or table p 0 ≡ empty) ⊎ (get_or table p 0 ≡ place))

-- a place is now listed, and every other as before
pub record ListsPlace (table : List ℕ) (home place : ℕ) (table' : List ℕ) : Type 0 where
  pub long : length table' ≡ length table
  pub listed : place < empty → PlaceListed table' home place
  pub still : (h i : ℕ) → i < empty → PlaceListed table h i → PlaceListed table' h i

-- the same at the home of a corner at p
abbrev pub ListsAt : Grid → Position → ℕ → List ℕ → List ℕ → Type 0
ListsAt g p place table table' = ListsPlace table (home_at g (length table) p) place table'

-- place i is listed at the home of the cells in pair x across and pair y down
abbrev pub ListedAt : List ℕ → ℕ → ℕ → ℕ → Type 0
ListedAt table x y i = PlaceListed table (home_of (length table) x y) i

-- the index lists place i for a corner at p, or it lies so far up that no corner from row `floor` on joins it
abbrev pub InIndex : Grid → ℕ → List ℕ → Position → ℕ → Type 0
InIndex g floor table p i = (row_of g p + 1 < floor) ⊎ PlaceListed table (home_at g (length table) p) i

-- the same for each of the first k corners of a buffer with these columns and rows
pub record Indexed (g : Grid) (floor : ℕ) (table : List ℕ) (xs ys : List Float) (k : ℕ) : Type 0 where
  pub some : 0 < length table
  pub each : (i : ℕ) → i < k → i < empty → InIndex g floor table (position_at xs ys i) i

-- ---- What the private functions that search the kept corners and settle one among them promise.

-- whether a corner at p joins the one at place i of a buffer with these columns and rows
abbrev pub joins_at : Grid → Position → List Float → List Float → ℕ → Bool
joins_at g p xs ys i = meets g p (position_at xs ys i)

-- i is the first of the numbers below n that pass a test
pub record FirstAt (f : ℕ → Bool) (n i : ℕ) : Type 0 where
  pub below : i < n
  pub passes : f i ≡ true
  pub before : (m : ℕ) → m < i → f m ≡ true → ⊥

-- what a search for it finds, nothing if none passes
abbrev pub FirstPasses : (ℕ → Bool) → ℕ → Option ℕ → Type 0
FirstPasses f n None = (i : ℕ) → i < n → f i ≡ true → ⊥
FirstPasses f n (Some i) = FirstAt f n i

-- r is at most n, is n or passes the test, and no smaller number among those looked at passes it
pub record IsFirstAmong (f : ℕ → Bool) (Looked : ℕ → Type 0) (n r : ℕ) : Type 0 where
  pub at_most : r ≤ n
  pub passes : (r ≡ n) ⊎ (f r ≡ true)
  pub before : (i : ℕ) → i < r → Looked i → f i ≡ true → ⊥

-- n corners are now at the start of a buffer, in place of its first k: these k with c settled among them
pub record Settled (j : Corner → Corner → Bool) (k : ℕ) (c : Corner) (b : Slices) (n : ℕ) (b' : Slices) : Type 0 where
  pub count : n ≡ length (settle j (corners_of b k) c)
  pub buffer : b' ≡ front_corners (settle j (corners_of b k) c) b

-- ---- Merging in place, one part of the list after the other, as the private functions promise it.

-- how many are settled, and how many of them are kept; at the start none
abbrev pub step : ℕ → ℕ → Step
step i k = record { done = i; kept = k }

abbrev pub start : Step
start = step 0 0

-- how many may be kept before merging without a borrowed table takes its largest
abbrev pub many_kept : ℕ
many_kept = 8192

-- at most as many are kept as are settled, and at most n are settled
pub record IsStep (n : ℕ) (s : Step) : Type 0 where
  pub few : s.kept ≤ s.done
  pub upto : s.done ≤ n

-- the corners of a list of n that are not settled yet, in the buffer that has them
abbrev pub unsettled : Slices → ℕ → ℕ → List Corner
unsettled b n i = drop i (corners_of b n)

-- With the first k corners of b kept and `rest` still to be settled, merging leaves the same list as with the first k'
-- of b' kept and rest' still to be settled. After the kept corners the buffer is unchanged.
pub record LeavesSame (j : Corner → Corner → Bool) (b : Slices) (k : ℕ) (rest : List Corner) (b' : Slices) (k' : ℕ)
    (rest' : List Corner) : Type 0 where
  pub more : k ≤ k'
  pub leaves : merged j (corners_of b' k') rest' ≡ merged j (corners_of b k) rest
  pub buffer : b' ≡ front_corners (corners_of b' k') b

-- merging a list of n corners has gone from one step to another
pub record StepAfter (j : Corner → Corner → Bool) (list : Option CornerView) (n : ℕ) (b : Slices) (s : Step)
    (b' : Slices) (s' : Step) : Type 0 where
  pub is_step : IsStep n s'
  pub leaves_same : LeavesSame j b s.kept (unsettled (given list b) n s.done) b' s'.kept
      (unsettled (given list b') n s'.done)

-- and is at the list's end, or keeps at least `most`
pub record StopAfter (j : Corner → Corner → Bool) (list : Option CornerView) (most n : ℕ) (b : Slices)
    (s : Step) (b' : Slices) (s' : Step) : Type 0 where
  pub stepped : StepAfter j list n b s b' s'
  pub far : (s'.done ≡ n) ⊎ (most ≤ s'.kept)
