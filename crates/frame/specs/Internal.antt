-- The contracts of private functions: no public promise depends on them.
use Rattle.std.specs.Prelude.{ℕ, zero, suc, ◌+◌, ◌*◌, ◌<◌, ◌≤◌, ◌≡◌, true, ◌||◌, List, ◌++◌, ltb, length, Float}
use Rattle.std.specs.Prelude.{Result, Ok, Err}
use Rattle.lists.specs.declared.refusal.Refusal.{Refusal}
use Rattle.lists.specs.declared.refusal.Refusal.TheVariants.{ListTooLong}
use Rattle.pyramid.specs.Internal.{LevelsComplete}
use Rattle.corner_list.specs.CornerList.{Slices, places_of, front_corners, placed_corners}
use Rattle.corner_list.specs.declared.Corner.{Corner}
use Rattle.detect.specs.declared.Peaks.{Peaks}
use Rattle.frame_params.specs.declared.FrameParams.{FrameParams}
use Rattle.patch_corners.specs.OneMap.{Choice, corners_in, ties_on}
use Rattle.lists.specs.Limits.{largest_border}
use Rattle.lists.specs.Places.{flat_map, sum_of}
use Rattle.lists.specs.Tab.{grid}
use Rattle.response.specs.Patch.{View, response_in}
use Rattle.frame_pass.specs.Pass.{level_view, corners_about, ties_about, seeds_of}
use Rattle.frame_pass.specs.Theorems.{SoundFrame}
use Rattle.frame.specs.declared.search.Lists.{Lists}

-- an image and parameters that no rule refuses, and a map buffer with a place for each pixel
pub record FrameChecked (p : FrameParams) (img : List ℕ) (w h places : ℕ) : Type 0 where
  pub sound : SoundFrame p img w h
  pub enough : w * h ≤ places

-- the level buffer after a pyramid of n levels was built in it
pub record BuiltLevels (p : FrameParams) (img : List ℕ) (w h n : ℕ) (levels : List ℕ) : Type 0 where
  pub before : List ℕ
  pub complete : LevelsComplete img w h p.levels p.minimum_side before levels n

-- ---- bands

-- RULES 4.1: no peak lies nearer to an edge of a map
abbrev pub border_of : FrameParams → ℕ
border_of p = p.ring + p.window + p.centroid_radius

-- a list begins with the first j rows of the map of v, of w cells each
pub record RowsHeld (v : View) (w j : ℕ) (m : List Float) : Type 0 where
  pub rest : List Float
  pub is : m ≡ grid w j (response_in v) ++ rest

-- the rows j up to e of a map of w by h: a band that is not the last ends past any border
pub record Band (w h j e : ℕ) : Type 0 where
  pub wide : 0 < w
  pub some : j < e
  pub within : e ≤ h
  pub deep : e < h → largest_border ≤ e

-- ---- lists added

-- two buffers with slices of the same lengths
pub record SameLengths (b b' : Slices) : Type 0 where
  pub xs : length b'.xs ≡ length b.xs
  pub ys : length b'.ys ≡ length b.ys
  pub strengths : length b'.strengths ≡ length b.strengths
  pub neighbours : length b'.neighbours ≡ length b.neighbours

-- the corners cs after the first `held` of a buffer, their number and the ties of their peaks; or a refusal if they do
-- not fit, and then only the lengths of the buffer are known
pub record AddsCorners (cs : List Corner) (ties held : ℕ) (b : Slices) (answer : Result Peaks Refusal) (b' : Slices)
    : Type 0 where
  pub added : (q : Peaks) → answer ≡ Ok q
      → (q.count ≡ length cs) × (held + q.count ≤ places_of b) × (b' ≡ placed_corners held cs b) × (q.ties ≡ ties)
  pub refused : (e : Refusal) → answer ≡ Err e → (e ≡ ListTooLong) × (places_of b < held + length cs)
  pub lengths : SameLengths b b'

-- the seeds of n levels at the start of a buffer; their ties are not used
pub record SeedsAdded (p : FrameParams) (img : List ℕ) (w h : ℕ) (choose : Choice) (n : ℕ) (b : Slices)
    (answer : Result Peaks Refusal) (b' : Slices) : Type 0 where
  pub ties : ℕ
  pub adds : AddsCorners (seeds_of p img w h choose n) ties 0 b answer b'

-- the corners before merging and their peaks' ties, by the number of levels and the seeds: `found_of` and `ties_found`
-- at the seeds of the pass
module _ (p : FrameParams) (img : List ℕ) (w h : ℕ) (choose : Choice) where
  abbrev pub found_by : ℕ → List Corner → List Corner
  found_by zero seeds = flat_map (corners_about p img w h choose 0) seeds
  found_by (suc zero) seeds = corners_in p choose (level_view p img w h 0)
  found_by (suc (suc k)) seeds = flat_map (corners_about p img w h choose (suc k)) seeds

  abbrev pub ties_by : ℕ → List Corner → ℕ
  ties_by zero seeds = sum_of (ties_about p img w h choose 0) seeds
  ties_by (suc zero) seeds = ties_on p choose (level_view p img w h 0)
  ties_by (suc (suc k)) seeds = sum_of (ties_about p img w h choose (suc k)) seeds

-- both lists are at the start of their buffers, and the ties are those of the peaks that `found` comes from; or a list
-- does not fit, and then only the lengths of both buffers are known
pub record Searched (seeds found : List Corner) (ties : ℕ) (s c : Slices) (answer : Result Lists Refusal)
    (s' c' : Slices) : Type 0 where
  pub both : (l : Lists) → answer ≡ Ok l
      → (l.seeds ≡ length seeds) × (l.seeds ≤ places_of s) × (s' ≡ front_corners seeds s)
      × (l.corners ≡ length found) × (l.corners ≤ places_of c) × (c' ≡ front_corners found c) × (l.ties ≡ ties)
  pub short : (e : Refusal) → answer ≡ Err e
      → (e ≡ ListTooLong) × ((ltb (places_of s) (length seeds) || ltb (places_of c) (length found)) ≡ true)
  pub seeds_lengths : SameLengths s s'
  pub corners_lengths : SameLengths c c'
