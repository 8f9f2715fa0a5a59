-- The centroid accepts each peak of a map, by either choice: its cell is above 0, and lies the centroid's radius and more from the edges.
-- Assumes nothing.
use Prim.Native.Nat.{zero, suc, ◌*◌}
use native.Mathlib.Nat.{le_trans, mul_comm, zero-mul}
use native.Mathlib.Omega.{arith}
use mathlib.Core.Path.{◌≡◌, refl, sym, ap, ◌∙◌, subst}
use mathlib.Core.Logic.{inl, inr}
use mathlib.Core.Bool.{true, not, false≢true}
use mathlib.Core.List.{[], ◌∷◌, map}
use lib.Dec.{T, lt→ltb}
use borrow.Author.Tests.{ltb-true}
use lib.ListN.{length, length-map}
use lib.IntN.{ℤ, pos, negsuc}
use lib.Signed.{◌<ℤ◌}
use lib.Ieee.{Float, nan, inf, fin, lt, is_nan}
use lib.Ieee.Positive.{num, den}
use lib.Ieee.Scale.{finite}
use Rattle.lists.specs.Places.{Place, All}
use Rattle.lists.proofs.Tests.{to-T, and_parts}
use Rattle.lists.proofs.Members.{all_map, all-mapped, flat_map-single}
use Rattle.float32.specs.Float32 as float32
use Rattle.response.specs.Patch.{View, map_width, map_height, cells}
use Rattle.response.specs.Exact.{fifths_in}
use Rattle.response.proofs.Outcome.{cols-le, rows-le}
use Rattle.response.proofs.Map.{cells-length}
use Rattle.accuracy.specs.Accurate.{Accurate}
use Rattle.accuracy.proofs.Cells.{map-accurate}
use Rattle.corner_list.specs.declared.Corner.{Corner}
use Rattle.detect.specs.Peaks.{CellTests, is_peak, value_at}
use Rattle.detect.specs.Internal.{Inside}
use Rattle.detect.specs.Detect.{read_in, peaks_by, start_at}
use Rattle.detect.specs.Exact.{fifths_above, exact}
use Rattle.detect.proofs.Choice.{peak-above, peak-positive, peaks-are}
use Rattle.center_of_mass.proofs.Peak.{peak-accepted}
use Rattle.frame_params.specs.declared.FrameParams.{FrameParams}
use Rattle.patch_corners.specs.OneMap.{Choice, search_on, computed_choice, exact_choice, IsChoice, localized, corners_in}
use Rattle.patch_corners.specs.MapCorners.{centred}
use Rattle.patch_corners.proofs.Fine.{Fine, map-usual}

-- what is finite is no NaN
not-nan : (x : Float) → T (finite x) → T (not (is_nan x))
unfolding is_nan
not-nan nan h = absurd h
not-nan (inf s) h = absurd h
not-nan (fin s m e) h = tt

-- what is above a threshold is above 0
fifths-positive : (t : Float) (E : ℤ) → fifths_above t E ≡ true → pos 0 <ℤ E
unfolding fifths_above
fifths-positive t (pos zero) e =
    absurd (let no : ⊥ = omega (arith, ltb-true (5 * num t) (0 * den t) (and_parts (finite t) _ e).1, zero-mul (den t)) in no)
fifths-positive t (pos (suc k)) e = record { lt = lt→ltb 0 (suc k) (omega arith) }
fifths-positive t (negsuc k) e = absurd (false≢true e)

module _ (p : FrameParams) (v : View) where
  abbrev Inner : Place → Type 0
  Inner = Inside (map_width v) (map_height v) (search_on p v).border

  -- a place of the map that is inside the border, and whose cell is above 0
  record Chosen (q : Place) : Type 0 where
    pub inside : Inner q
    pub above : T (lt float32.zero (value_at (cells v) (map_width v) q))

  abbrev PeakBy : CellTests → Place → Type 0
  PeakBy u q = Inner q × (is_peak u (map_width v) (map_height v) p.window p.least_neighbours q ≡ true)

  abbrev Exactly : CellTests
  Exactly = exact (λ q. fifths_in v q.x q.y) (search_on p v).threshold

  abbrev Start : Place → Corner
  Start = start_at (cells v) (search_on p v)

  abbrev Centre : Corner → Corner
  Centre = centred p.centroid_radius (cells v) (map_width v) (map_height v)

  module _ (f : Fine p v) where
    -- ---- each peak is such a place
    accurate : (q : Place) → Inner q → Accurate (value_at (cells v) (map_width v) q) (fifths_in v q.x q.y)
    accurate q i = map-accurate v f.bytes q.x q.y nan (omega (arith, i.right)) (omega (arith, i.bottom))

    chosen_by : (u : CellTests) → ((q : Place) → PeakBy u q → T (lt float32.zero (value_at (cells v) (map_width v) q)))
        → All Chosen (peaks_by u (search_on p v))
    chosen_by u g =
        all_map (PeakBy u) Chosen (λ q k. record { inside = k.0; above = g q k })
        (peaks_by u (search_on p v)) (peaks-are u (map_width v) (map_height v) (search_on p v).border p.window p.least_neighbours)

    -- a computed one is not at or below its threshold, which is lifted, and is no NaN
    computed-chosen : All Chosen (computed_choice p v)
    computed-chosen =
        chosen_by (read_in (cells v) (search_on p v))
        (λ q k. to-T (peak-positive (cells v) (search_on p v) p.threshold refl q k.1 (not-nan _ (accurate q k.0).near.is_finite)))

    -- an exact one has an exact value above 0, and so its cell is above 0
    exact-chosen : All Chosen (exact_choice p v)
    exact-chosen =
        chosen_by Exactly
        (λ q k.
        let above = peak-above Exactly (map_width v) (map_height v) p.window p.least_neighbours q k.1 in
        (accurate q k.0).positive.1 (fifths-positive (search_on p v).threshold (fifths_in v q.x q.y) above))

    chosen : (choose : Choice) → IsChoice p choose → All Chosen (choose v)
    chosen choose (inl e) = subst (λ (c : Choice). All Chosen (c v)) (sym e) computed-chosen
    chosen choose (inr e) = subst (λ (c : Choice). All Chosen (c v)) (sym e) exact-chosen

    -- ---- each is accepted
    accepted : (q : Place) → Chosen q → localized p v (Start q) ≡ Centre (Start q) ∷ []
    unfolding centred
    accepted q k =
        let i = k.inside in
        let a =
        peak-accepted p.centroid_radius (cells v) (map_width v) (map_height v) q.x q.y (map-usual v f.bytes) f.in-radius
        (le_trans (cols-le v) f.narrow) (le_trans (rows-le v) f.low) (cells-length v ∙ mul_comm (map_height v) (map_width v))
        (omega (arith, i.left)) (omega (arith, i.right)) (omega (arith, i.top)) (omega (arith, i.bottom)) k.above in
        rw a.3

-- the corners of a map are its peaks, each at its centre of mass
pub corners-centred : (p : FrameParams) (v : View) (choose : Choice) → Fine p v → IsChoice p choose
    → corners_in p choose v ≡ map (centred p.centroid_radius (cells v) (map_width v) (map_height v))
    (map (start_at (cells v) (search_on p v)) (choose v))
unfolding corners_in
corners-centred p v choose f c =
    flat_map-single (localized p v) (Centre p v) (map (Start p v) (choose v))
    (all-mapped (λ s. localized p v s ≡ Centre p v s ∷ []) (Start p v) (choose v)
    (all_map (Chosen p v) (λ q. localized p v (Start p v q) ≡ Centre p v (Start p v q) ∷ []) (accepted p v f) (choose v)
    (chosen p v f choose c)))

-- so there are as many corners as peaks
pub corners-count : (p : FrameParams) (v : View) (choose : Choice) → Fine p v → IsChoice p choose
    → length (corners_in p choose v) ≡ length (choose v)
corners-count p v choose f c =
    ap length (corners-centred p v choose f c) ∙ length-map (map (Start p v) (choose v)) (Centre p v) ∙ length-map (choose v) (Start p v)
