-- Two maps that agree in the cells no nearer to an edge than the margin have the same corners, by either choice, and
-- the same ties. Assumes nothing.
use Prim.Native.Nat.{ℕ, ◌+◌, ◌≤◌}
use native.Mathlib.Omega.{arith}
use mathlib.Core.Path.{◌≡◌, ap, ◌∙◌}
use mathlib.Core.Bool.{Bool, true}
use mathlib.Core.List.{List, map}
use lib.ListN.{length}
use lib.Ieee.{Float}
use Rattle.lists.specs.Limits.{largest_side}
use Rattle.lists.specs.Places.{Place, All}
use Rattle.lists.proofs.Members.{all_map, all-mapped}
use Rattle.corner_list.specs.declared.Corner.{Corner}
use Rattle.detect.specs.declared.Search.{Search}
use Rattle.detect.specs.Peaks.{value_at}
use Rattle.detect.specs.Internal.{Inside, place}
use Rattle.detect.specs.Detect.{read_in, peak_in, peaks_in, start_at, starts_in}
use Rattle.detect.proofs.Choice.{peaks-are}
use Rattle.detect.proofs.Nearby.{map-alike, same-starts, same-ties}
use Rattle.center_of_mass.specs.declared.Outcome.{Outcome}
use Rattle.center_of_mass.proofs.Alike.{refined-alike}
use Rattle.frame_params.specs.declared.FrameParams.{FrameParams}
use Rattle.patch_corners.specs.MapCorners.{centre_or_seed, centred, search_with, centres_in, ties_with}
use Rattle.patch_corners.specs.Internal.{margin_of}

module _ (p : FrameParams) (exact : Bool) (m m' : List Float) (w h : ℕ) (narrow : w ≤ largest_side) (low : h ≤ largest_side)
    (long : length m ≡ length m')
    (same : (q : Place) → Inside w h (margin_of p) q → value_at m w q ≡ value_at m' w q) where
  abbrev Wanted : Search
  Wanted = search_with p exact w h

  abbrev Centre : List Float → Corner → Corner
  Centre l = centred p.centroid_radius l w h

  -- no window reaches further out than the margin
  window-reach : margin_of p + p.window ≤ Wanted.border
  window-reach = omega arith

  -- nor does the centre of mass about a peak
  centre-alike : (q : Place) → Inside w h Wanted.border q → Centre m (start_at m Wanted q) ≡ Centre m' (start_at m Wanted q)
  unfolding centred
  centre-alike q i =
      ap (λ (o : Outcome). centre_or_seed o (start_at m Wanted q))
      (refined-alike p.centroid_radius m m' w h q.x q.y (omega (arith, i.right)) (omega (arith, i.bottom)) long
      (omega (arith, i.left)) (omega (arith, i.right)) (omega (arith, i.top)) (omega (arith, i.bottom))
      (λ x y a b c d.
      same (place x y)
      (record {
        left = omega (arith, i.left);
        right = omega (arith, i.right);
        top = omega (arith, i.top);
        bottom = omega (arith, i.bottom);
      })))

  centres-alike : All (λ c. Centre m c ≡ Centre m' c) (starts_in m Wanted)
  centres-alike =
      all-mapped (λ c. Centre m c ≡ Centre m' c) (start_at m Wanted) (peaks_in m Wanted)
      (all_map (λ q. Inside w h Wanted.border q × (peak_in m Wanted q ≡ true))
      (λ q. Centre m (start_at m Wanted q) ≡ Centre m' (start_at m Wanted q))
      (λ q k. centre-alike q k.0) (peaks_in m Wanted)
      (peaks-are (read_in m Wanted) w h Wanted.border p.window p.least_neighbours))

  pub same-centres : centres_in p exact m w h ≡ centres_in p exact m' w h
  same-centres =
      map-alike (Centre m) (Centre m') (starts_in m Wanted) centres-alike
      ∙ ap (map (Centre m')) (same-starts m m' Wanted (margin_of p) window-reach same)

  pub same-ties-with : ties_with p exact m w h ≡ ties_with p exact m' w h
  same-ties-with = same-ties m m' Wanted (margin_of p) window-reach same
