-- From `finished-tells` of frame and `pass_same` of frame_pass; the maps alike from `peaks_alike` of agreement. Assumes nothing.
use Prim.Native.Nat.{ℕ}
use mathlib.Core.Path.{◌≡◌, sym, ap, ◌∙◌, subst}
use mathlib.Core.Logic.{◌↔◌}
use mathlib.Core.List.{List, [], ◌∷◌, map}
use lib.ListN.{length}
use lib.Ieee.{nan}
use Rattle.lists.specs.Places.{All}
use Rattle.lists.specs.Refusals.{lowest}
use Rattle.lists.proofs.Members.{all_map, all_both}
use Rattle.float32.specs.Float32.{lift}
use Rattle.float32.specs.Value.{IsWhole}
use Rattle.response.specs.Patch.{View, map_width, map_height, cells}
use Rattle.response.specs.Exact.{fifths_in}
use Rattle.accuracy.specs.Accurate.{Bytes}
use Rattle.accuracy.proofs.Cells.{map-accurate}
use Rattle.agreement.proofs.Lists.{peaks_alike}
use Rattle.detect.specs.declared.Search.{Search}
use Rattle.detect.specs.Detect.{peaks_in}
use Rattle.detect.specs.Detect as detect
use Rattle.detect.specs.Exact.{exact, exact_peaks}
use Rattle.frame_params.specs.declared.FrameParams.{FrameParams}
use Rattle.patch_corners.specs.OneMap.{Choice, search_on, exact_choice}
use Rattle.patch_corners.proofs.Fine.{Fine}
use Rattle.frame_pass.specs.Refusals.{conditions}
use Rattle.frame_pass.specs.Pass.{Pass, frame_pass}
use Rattle.frame_pass.specs.Theorems.{SoundFrame}
use Rattle.frame_pass.proofs.Refusals.{admitted, admitted-sound}
use Rattle.frame_pass.proofs.Maps.{map-clear, looked-fine, none_dropped}
use Rattle.frame_pass.proofs.Same.{pass_same}
use Rattle.frame_pass.proofs.Inside.{corners-inside, boxes-answered}
use Rattle.frame.specs.Frame.{Buffers, too_many, refusal_of}
use Rattle.frame.proofs.Callers.{finished-tells}
use Rattle.demands.specs.PeakCall.{search_in}
use Rattle.demands.specs.PeaksAlike.{program_list, position, name_of}
use Rattle.demands.specs.FrameExact.{CallBy, FrameCall, maps_in, Alike, WithoutTie, FrameExact, AlikeByName, MapsSearched, MapsAlike}
use Rattle.demands.specs.FrameExact.{FrameWithoutTies, FourNever, PeaksKept}
use Rattle.lists.proofs.Refusals.{lowest-before}
use Rattle.demands.proofs.Added.{named}

pub frame_exact : FrameExact
frame_exact c alike =
    let f = finished-tells _ c.parameters c.img c.w c.h c.before (record { corners = c.count; ties = c.ties }) c.after c.promise in
    let same = ap (λ (q : Pass). q.corners) (pass_same c.parameters c.img c.w c.h alike) in
    record { corners = f.corners ∙ same; count = f.count ∙ ap length same }

-- ---- alike, by what peak finding adds
pub alike_by_name : AlikeByName
alike_by_name p v c same =
    subst (λ (s : Search). (map position (program_list c) ≡ map name_of (exact_peaks (λ q. fifths_in v q.x q.y) s))
    ↔ (peaks_in (cells v) s ≡ exact_peaks (λ q. fifths_in v q.x q.y) s))
    same (named (cells v) (map_width v) (map_height v) c (exact (λ q. fifths_in v q.x q.y) (search_in c).threshold))

-- ---- the maps of a frame

-- a frame that is not refused is sound
pub sound-frame : (choose : Choice) (p : FrameParams) (img : List ℕ) (w h : ℕ) (b : Buffers) → refusal_of choose p img w h b ≡ 0 → Bytes img
    → SoundFrame p img w h
unfolding refusal_of
sound-frame choose p img w h b e bytes =
    let cells = length b.map in
    let places = length b.levels in
    let none = lowest-before (conditions p (length img) w h cells places) ((too_many (frame_pass p img w h choose) b, 10) ∷ []) e in
    admitted-sound p img w h cells places (admitted p (length img) w h cells places none) bytes

pub sound : {choose : FrameParams → Choice} (c : CallBy choose) → SoundFrame c.parameters c.img c.w c.h
sound {choose} c =
    sound-frame (choose c.parameters) c.parameters c.img c.w c.h c.before (sym c.promise.number) c.bytes

pub fine-maps : (c : FrameCall) → All (Fine c.parameters) (maps_in c)
fine-maps c = looked-fine c.parameters c.img c.w c.h (exact_choice c.parameters) (sound c)

pub maps_searched : MapsSearched
maps_searched c =
    let p = c.parameters in
    all_map (Fine p) (λ v. lowest (detect.conditions (length (cells v)) (map_width v) (map_height v) p.ring p.window
    p.centroid_radius) ≡ 0) (λ v f. (map-clear p v f).none) (maps_in c) (fine-maps c)

-- ---- alike, by ties
map-alike : (p : FrameParams) (k : ℕ) → IsWhole (lift p.threshold) k → (v : View) → Fine p v → Alike p v ↔ WithoutTie p v
map-alike p k whole v f =
    peaks_alike (cells v) (λ q. fifths_in v q.x q.y) (lift p.threshold) k (map_width v) (map_height v) (search_on p v).border
    p.window p.least_neighbours whole
    (λ q x y. map-accurate v f.bytes q.x q.y nan x y)

pub maps_alike : MapsAlike
maps_alike c k whole =
    all_map (Fine c.parameters) (λ v. Alike c.parameters v ↔ WithoutTie c.parameters v)
    (map-alike c.parameters k whole) (maps_in c) (fine-maps c)

pub all_alike : (c : FrameCall) (k : ℕ) → IsWhole (lift c.parameters.threshold) k → All (WithoutTie c.parameters) (maps_in c)
    → All (Alike c.parameters) (maps_in c)
all_alike c k whole untied =
    let p = c.parameters in
    all_map (λ v. (Alike p v ↔ WithoutTie p v) × WithoutTie p v) (Alike p) (λ v b. b.0.1 b.1) (maps_in c)
    (all_both (λ v. Alike p v ↔ WithoutTie p v) (WithoutTie p) (maps_in c) (maps_alike c k whole) untied)

pub frame_without_ties : FrameWithoutTies
frame_without_ties c k whole untied = frame_exact c (all_alike c k whole untied)

-- ---- number 4
pub four_never : FourNever
four_never p img w h choose = (corners-inside p img w h choose, boxes-answered p img w h choose)

-- ---- number 10
pub peaks_kept : PeaksKept
peaks_kept = none_dropped
