-- From `finished-tells` of frame, and from `result-all` of merge and the pass, map by map; the counts from `counts-alike` of agreement.
-- Assumes nothing.
use Prim.Native.Nat.{ℕ, zero, suc}
use mathlib.Core.Path.{◌≡◌, refl, sym, ◌∙◌}
use mathlib.Core.Bool.{true}
use mathlib.Core.List.{List, [], ◌∷◌, ◌++◌, map, append_assoc}
use lib.Ieee.{Float, nan}
use Rattle.lists.specs.Places.{Place, All}
use Rattle.lists.proofs.Members.{all_map, all_both, all-mapped, all-flat, all-unflat}
use Rattle.response.specs.Patch.{View, map_width, map_height, cells}
use Rattle.response.specs.Exact.{fifths_in}
use Rattle.accuracy.proofs.Cells.{map-accurate}
use Rattle.agreement.proofs.Place.{counts-alike}
use Rattle.corner_list.specs.declared.Corner.{Corner}
use Rattle.detect.specs.Internal.{Inside}
use Rattle.detect.specs.Detect.{neighbours_at, read_in, peak_in, start_at}
use Rattle.detect.proofs.Choice.{peak-supported, peaks-are}
use Rattle.center_of_mass.specs.declared.Outcome.{Outcome}
use Rattle.center_of_mass.specs.declared.Outcome.TheVariants.{Accepted, Rejected, OutOfBounds, IllConditioned, Refused}
use Rattle.center_of_mass.specs.CenterOfMass.{refined}
use Rattle.merge.proofs.Result.{result-all}
use Rattle.frame_params.specs.declared.FrameParams.{FrameParams}
use Rattle.patch_corners.specs.OneMap.{centre_or_none, moved, search_on, computed_choice, localized, corners_in}
use Rattle.patch_corners.proofs.Fine.{Fine}
use Rattle.frame_pass.specs.Pass.{levels_in, level_view, seed_patch, corners_on, corners_about, seeds_of, found_of, frame_pass, maps_of}
use Rattle.frame_pass.specs.Pass.{looked_at}
use Rattle.frame_pass.proofs.Maps.{looked-fine}
use Rattle.frame.proofs.Callers.{finished-tells}
use Rattle.demands.specs.Neighbours.{own_maps, IsIn, OfPeak, NeighboursKept, exact_neighbours, CountsExact}
use Rattle.demands.proofs.FrameExact.{sound}

-- ---- each of a list is in it
in_whole : {A : Type 0} (whole ahead rest : List A) → whole ≡ ahead ++ rest → All (λ a. IsIn a whole) rest
in_whole whole ahead [] e = tt
in_whole whole ahead (a ∷ rest) e = (
  record { ahead = ahead; behind = rest; split = e },
  in_whole whole (ahead ++ (a ∷ [])) rest (e ∙ sym (append_assoc ahead (a ∷ []) rest)),
)

pub all_in : {A : Type 0} (l : List A) → All (λ a. IsIn a l) l
all_in l = in_whole l [] l refl

module _ (p : FrameParams) (maps : List View) where
  -- whatever becomes of its place
  elsewhere : (c : Corner) (x y : Float) → OfPeak p maps c
      → OfPeak p maps (record { x = x; y = y; strength = c.strength; neighbours = c.neighbours })
  elsewhere c x y o = record {
    view = o.view;
    searched = o.searched;
    place = o.place;
    peak = o.peak;
    strength = o.strength;
    neighbours = o.neighbours;
    enough = o.enough;
  }

  kept_of : (o : Outcome) (c : Corner) → OfPeak p maps c → All (OfPeak p maps) (centre_or_none o c)
  kept_of (Accepted x y mass) c h = (elsewhere c x y h, tt)
  kept_of (Rejected x y) c h = tt
  kept_of (OutOfBounds x y) c h = tt
  kept_of (IllConditioned x y) c h = tt
  kept_of (Refused n) c h = tt

  -- ---- the corners of a map
  module _ (v : View) (searched : IsIn v maps) where
    -- a place of the list of peaks, and what is true of it there
    abbrev Chosen : Place → Type 0
    Chosen a =
        IsIn a (computed_choice p v) × (Inside (map_width v) (map_height v) (search_on p v).border a
        × (peak_in (cells v) (search_on p v) a ≡ true))

    chosen : All Chosen (computed_choice p v)
    chosen =
        all_both (λ a. IsIn a (computed_choice p v)) _ (computed_choice p v) (all_in (computed_choice p v))
        (peaks-are (read_in (cells v) (search_on p v)) (map_width v) (map_height v) (search_on p v).border p.window p.least_neighbours)

    start_of : (a : Place) → Chosen a → OfPeak p maps (start_at (cells v) (search_on p v) a)
    start_of a h = record {
      view = v;
      searched = searched;
      place = a;
      peak = h.0;
      strength = refl;
      neighbours = refl;
      enough = peak-supported (read_in (cells v) (search_on p v)) (map_width v) (map_height v) p.window p.least_neighbours a h.1.1;
    }

    localized-of : (c : Corner) → OfPeak p maps c → All (OfPeak p maps) (localized p v c)
    localized-of c = kept_of (refined p.centroid_radius c.x c.y true (cells v) (map_width v) (map_height v)) c

    corners-of : All (OfPeak p maps) (corners_in p (computed_choice p) v)
    unfolding corners_in
    corners-of =
        let start = start_at (cells v) (search_on p v) in
        let peaks = computed_choice p v in
        all-flat (OfPeak p maps) (localized p v) (map start peaks)
        (all-mapped (λ c. All (OfPeak p maps) (localized p v c)) start peaks
        (all_map Chosen (λ a. All (OfPeak p maps) (localized p v (start a))) (λ a h. localized-of (start a) (start_of a h)) peaks chosen))

  -- ---- and of a pass
  module _ (img : List ℕ) (w h : ℕ) where
    on-patch : (v : View) → IsIn v maps → All (OfPeak p maps) (corners_on p img w h (computed_choice p) v)
    on-patch v i =
        let corners = corners_in p (computed_choice p) v in
        all-mapped (OfPeak p maps) (moved v.x0 v.y0) corners
        (all_map (OfPeak p maps) (λ c. OfPeak p maps (moved v.x0 v.y0 c)) (λ c. elsewhere c _ _) corners (corners-of v i))

    found-of : (n : ℕ) → All (λ v. IsIn v maps) (maps_of p img w h (computed_choice p) n)
        → All (OfPeak p maps) (found_of p img w h (computed_choice p) n)
    unfolding maps_of found_of
    found-of zero i = tt
    found-of (suc zero) i = corners-of (level_view p img w h 0) i.0
    found-of (suc (suc k)) i =
        let seeds = seeds_of p img w h (computed_choice p) (suc (suc k)) in
        let patch = seed_patch p img w h (suc k) in
        all-flat (OfPeak p maps) (corners_about p img w h (computed_choice p) (suc k)) seeds
        (all_map (λ s. All (λ v. IsIn v maps) (patch s)) (λ s. All (OfPeak p maps) (corners_about p img w h (computed_choice p) (suc k) s))
        (λ s j.
        all-flat (OfPeak p maps) (corners_on p img w h (computed_choice p)) (patch s)
        (all_map (λ v. IsIn v maps) (λ v. All (OfPeak p maps) (corners_on p img w h (computed_choice p) v)) on-patch (patch s) j))
        seeds (all-unflat (λ v. IsIn v maps) patch seeds i.1))

pub neighbours_kept : NeighboursKept
unfolding frame_pass looked_at
neighbours_kept c =
    let p = c.parameters in
    let n = levels_in p c.img c.w c.h in
    let maps = own_maps c in
    let f = finished-tells _ p c.img c.w c.h c.before (record { corners = c.count; ties = c.ties }) c.after c.promise in
    rw f.corners
    (result-all (OfPeak p maps) p.merge_radius (found_of p c.img c.w c.h (computed_choice p) n)
    (found-of p maps c.img c.w c.h n (all_in maps)))

-- ---- by exact values
pub counts_exact : CountsExact
counts_exact c =
    let p = c.parameters in
    all_map (Fine p) (λ v. (a : Place) → exact_neighbours p v a ≡ neighbours_at (cells v) (search_on p v) a)
    (λ v f a.
    counts-alike (cells v) (λ q. fifths_in v q.x q.y) (map_width v) (map_height v)
    (λ q x y. map-accurate v f.bytes q.x q.y nan x y)
    p.window a)
    (own_maps c) (looked-fine p c.img c.w c.h (computed_choice p) (sound c))
