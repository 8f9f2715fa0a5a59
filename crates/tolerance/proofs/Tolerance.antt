-- The theorems of `specs/Tolerance.antt`: the cells about a seed are at most 25, each alike with its exact value, so each coordinate of
-- their centre of mass is close (`mean-close`). Assumes nothing.
use Prim.Native.Nat.{ℕ, ◌+◌, ◌-◌, ◌*◌, ◌^◌, ◌≤◌, ◌<◌}
use native.Mathlib.Omega.{arith}
use mathlib.Core.Path.{◌≡◌, refl}
use mathlib.Core.Bool.{true, Bool}
use mathlib.Core.List.{map, List}
use lib.Dec.{T}
use lib.ListN.{length}
use lib.IntN.{ℤ}
use lib.Ieee.{Float, nan, binary32, low, lt, div}
use Rattle.lists.specs.Places.{Place, All}
use Rattle.lists.proofs.Places.{in_map}
use Rattle.lists.proofs.Members.{all_map, all-at, all_of, all-block}
use Rattle.float32.specs.Float32.{zero as zero32}
use Rattle.float32.specs.Value.{plus_part}
use Rattle.response.specs.Patch.{View, map_width, map_height, cells}
use Rattle.response.specs.Exact.{fifths_in}
use Rattle.accuracy.specs.Accurate.{Bytes}
use Rattle.accuracy.proofs.Cells.{map-accurate}
use Rattle.corner_list.specs.declared.Corner.{Corner}
use Rattle.detect.specs.Detect.{start_at}
use Rattle.center_of_mass.specs.declared.Outcome.{Outcome}
use Rattle.center_of_mass.specs.declared.Outcome.TheVariants.{Accepted, Rejected, OutOfBounds, IllConditioned, Refused}
use Rattle.center_of_mass.specs.CenterOfMass.{no_sums, cells_about, window_sums, refined}
use Rattle.center_of_mass.proofs.Weights.{Usual, units_at, sx-is, sy-is}
use Rattle.center_of_mass.proofs.Range.{Inside, window-few, window-weighs, Weighing, weighing}
use Rattle.frame_params.specs.declared.FrameParams.{FrameParams}
use Rattle.patch_corners.specs.OneMap.{Choice, search_on, centre_or_none, localized}
use Rattle.patch_corners.proofs.Fine.{Fine, map-usual}
use Rattle.frame_pass.specs.Pass.{looked_at}
use Rattle.frame_pass.specs.Theorems.{SoundFrame}
use Rattle.frame_pass.proofs.Maps.{looked-fine}
use Rattle.tolerance.specs.Tolerance.{summed_cells, Close, CloseCorner, CloseCorners}
use Rattle.tolerance.proofs.Means.{Alike}
use Rattle.tolerance.proofs.Cell.{alike-cell}
use Rattle.tolerance.proofs.Mean.{exact_above, mean-close}

-- ---- the window of radius r about column px and row py, in the map of a box
module _ (v : View) (bytes : Bytes v.img) (r px py : ℕ) (R : r ≤ 2) (i : Inside r (cells v) (map_width v) (map_height v) px py)
    (above : T (lt zero32 (window_sums r (cells v) (map_width v) px py).sw)) where
  abbrev exactly : Place → ℤ
  exactly q = fifths_in v q.x q.y

  -- what holds of each place of the window
  all-window : (P : Place → Type 0) → ((x y : ℕ) → px - r ≤ x → x < px + r + 1 → py - r ≤ y → y < py + r + 1 → P (record { x = x; y = y }))
      → All P (cells_about r px py)
  all-window P f = all-block P (px - r) (px + r + 1) (py - r) (py + r + 1) f

  alike : All (λ p. Alike (2 ^ low binary32) (units_at (cells v) (map_width v) p) (plus_part (exactly p))) (cells_about r px py)
  alike =
      all-window _ (λ x y a b c d.
      let A : x < map_width v = omega (arith, i.across) in
      let B : y < map_height v = omega (arith, i.down) in
      let K : y * map_width v + x < length (cells v) = rw i.cells (in_map (map_width v) (map_height v) x y A B) in
      alike-cell _ _ (all-at Usual (cells v) (map-usual v bytes) (y * map_width v + x) nan K) (map-accurate v bytes x y nan A B))

  close-window : Close exactly (cells_about r px py)
      (div binary32 (window_sums r (cells v) (map_width v) px py).sx (window_sums r (cells v) (map_width v) px py).sw)
      (div binary32 (window_sums r (cells v) (map_width v) px py).sy (window_sums r (cells v) (map_width v) px py).sw)
  close-window =
      let few = window-few r px py 2 R in
      let each = window-weighs r (cells v) (map_width v) (map_height v) px py i (map-usual v bytes) in
      let e : Place → ℕ = λ p. plus_part (exactly p) in
      record {
        some = exact_above (cells v) (map_width v) (cells_about r px py) few each e alike above;
        across =
            rw (sx-is (cells v) (map_width v) no_sums (cells_about r px py))
            (mean-close (cells v) (map_width v) (cells_about r px py) few each e alike above (λ p. p.x) (px - r)
            (all-window _ (λ x y a b c d. (a, omega arith))) (all-window _ (λ x y a b c d. omega (arith, i.across, i.sides))));
        down =
            rw (sy-is (cells v) (map_width v) no_sums (cells_about r px py))
            (mean-close (cells v) (map_width v) (cells_about r px py) few each e alike above (λ p. p.y) (py - r)
            (all-window _ (λ x y a b c d. (c, omega arith))) (all-window _ (λ x y a b c d. omega (arith, i.down, i.sides))));
      }

-- ---- an accepted outcome
close-centre : (v : View) → Bytes v.img → (r : ℕ) (x y cx cy mass : Float) → r ≤ 2
    → Weighing r x y (cells v) (map_width v) (map_height v) cx cy mass
    → Close (λ q. fifths_in v q.x q.y) (summed_cells r x y) cx cy
close-centre v bytes r x y cx cy mass R g =
    rw (g.column-is, g.row_is, g.cx-is, g.cy-is) (close-window v bytes r g.px g.py R g.inside g.above)

-- in the map of any box, about any seed. Its sides are at most the largest: another map is refused as 1
pub centre_tolerance : (v : View) → Bytes v.img → (r : ℕ) (x y : Float) (has_map : Bool) (cx cy mass : Float) → r ≤ 2
    → refined r x y has_map (cells v) (map_width v) (map_height v) ≡ Accepted cx cy mass
    → Close (λ q. fifths_in v q.x q.y) (summed_cells r x y) cx cy
centre_tolerance v bytes r x y has_map cx cy mass R e =
    close-centre v bytes r x y cx cy mass R (weighing r x y (cells v) (map_width v) (map_height v) cx cy mass has_map e)

-- ---- the corners of a map
module _ (p : FrameParams) (v : View) (bytes : Bytes v.img) (R : p.centroid_radius ≤ 2) where
  close-kept : (s : Corner) (o : Outcome) → refined p.centroid_radius s.x s.y true (cells v) (map_width v) (map_height v) ≡ o
      → All (CloseCorner p v s) (centre_or_none o s)
  close-kept s (Accepted cx cy mass) e = (centre_tolerance v bytes p.centroid_radius s.x s.y true cx cy mass R e, tt)
  close-kept s (Rejected x y) e = tt
  close-kept s (OutOfBounds x y) e = tt
  close-kept s (IllConditioned x y) e = tt
  close-kept s (Refused n) e = tt

  pub close-corners : (choose : Choice) → CloseCorners p choose v
  close-corners choose =
      all_of (λ s. All (CloseCorner p v s) (localized p v s)) (λ s. close-kept s _ refl)
      (map (start_at (cells v) (search_on p v)) (choose v))

-- ---- each map that a frame looks at, by any choice of peaks
pub frame_tolerance : (p : FrameParams) (img : List ℕ) (w h : ℕ) (choose : Choice) → SoundFrame p img w h → p.centroid_radius ≤ 2
    → All (CloseCorners p choose) (looked_at p img w h choose)
frame_tolerance p img w h choose s R =
    all_map (Fine p) (CloseCorners p choose) (λ v f. close-corners p v f.bytes R choose) (looked_at p img w h choose)
    (looked-fine p img w h choose s)
