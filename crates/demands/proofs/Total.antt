-- Each answer has its table's number, and a table gives 0 or one of its numbers. Assumes nothing.
use Prim.Native.Nat.{ℕ, zero, suc, ◌+◌, ◌*◌, ◌<◌, min}
use native.Mathlib.Omega.{arith}
use mathlib.Core.Path.{◌≡◌, refl, sym, ap, ◌∙◌, subst}
use mathlib.Core.Bool.{Bool, not, ◌&&◌, ◌||◌}
use mathlib.Core.List.{List, [], ◌∷◌, ◌++◌}
use lib.ListN.{length, take}
use lib.Dec.{ltb}
use lib.Ieee.{Float}
use borrow.Author.Tests.{eq-eqb}
use Rattle.std.specs.Prelude.{Result}
use Rattle.lists.specs.declared.refusal.Refusal.{Refusal}
use Rattle.lists.specs.Places.{Place, any}
use Rattle.lists.specs.Refusals.{is_large, is_misfit, lowest, refusal_number, number_of}
use Rattle.lists.proofs.Judged.{refused-above}
use Rattle.ring.specs.Ring.{is_ring}
use Rattle.response.specs.declared.Patch.{Patch}
use Rattle.response.specs.Patch as response
use Rattle.pyramid_levels.specs.Refusals.{ask, is_absent, is_level_buffer_short, build_refusal_of, level_refusal_of}
use Rattle.corner_list.specs.declared.Corner.{Corner}
use Rattle.corner_list.specs.CornerList.{Slices, places_of, corners_of}
use Rattle.detect.specs.declared.Peaks.{Peaks}
use Rattle.detect.specs.Detect as detect
use Rattle.detect.specs.declared.Search.{Search}
use Rattle.center_of_mass.specs.declared.Outcome.{Outcome}
use Rattle.center_of_mass.specs.declared.Outcome.TheVariants.{Refused}
use Rattle.center_of_mass.specs.CenterOfMass as center
use Rattle.center_of_mass.specs.Promise.{Refined}
use Rattle.multiscale.specs.Multiscale as multiscale
use Rattle.merge_radius.specs.MergeRadius.{is_off, radius_outside}
use Rattle.merge_refusal.specs.Refusals.{corner_outside}
use Rattle.merge.specs.Merge as merge
use Rattle.merge.specs.Apart.{refusal_apart}
use Rattle.merge_slice.specs.MergeSlice.{shared_places, refusal_for}
use Rattle.corner_strike.specs.Showing as showing
use Rattle.corner_strike.specs.Striking as striking
use Rattle.frame_params.specs.declared.FrameParams.{FrameParams}
use Rattle.patch_corners.specs.OneMap.{Choice, choice_of}
use Rattle.frame_params.specs.Ranges.{parameters_fit}
use Rattle.frame_pass.specs.Refusals.{conditions}
use Rattle.frame_pass.specs.Pass.{frame_pass}
use Rattle.frame.specs.declared.Found.{Found}
use Rattle.frame.specs.Frame as frame
use Rattle.pgm.specs.Header.{width_of, height_of}
use Rattle.pgm.specs.Pgm as pgm
use Rattle.pgm.proofs.Judging.{pixels-length}
use Rattle.stream.specs.declared.Header.{Header}
use Rattle.stream.specs.Answer.{FrameRead}
use Rattle.stream.proofs.Callers.{refusal-found}
use Rattle.frame_writer.specs.FrameWriter as writer
use Rattle.retouch.specs.Promise as retouch
use Rattle.response_limits.specs.Promise as limits
use Rattle.sure_peak.specs.Promise as sure
use Rattle.retention.specs.declared.Holding.{Holding}
use Rattle.retention.specs.Answer.{StateTold}
use Rattle.retention.specs.Retention as retention
use Rattle.demands.specs.ResponseCall.{view_of}
use Rattle.demands.specs.Numbers.{OneOf, RefusesBy, Refuses}
use Rattle.demands.specs.Total.{PeaksRefuse, FrameRefuses, PhotographRefuses, Total}
use Rattle.demands.proofs.Tables.{widen, numbered-one, refused-one}
use Rattle.demands.proofs.Photographs.{photograph-accepted, photograph-number}
use Rattle.demands.proofs.Faults.{frame-few}

response-refuses : (v : response.View) (cs : List Float) (radius : ℕ) (d e : List Float) (r : Result Patch Refusal)
    → response.MapMade v cs radius d r e → Refuses (1 ∷ 2 ∷ 3 ∷ 8 ∷ []) r
unfolding response.refusal_of
response-refuses v cs radius d e r f =
    refused-one
    ((is_large v.w v.h, 1)
    ∷ (is_misfit (length v.img) v.w v.h, 2)
    ∷ (not (is_ring radius), 3)
    ∷ (ltb (length d) (response.map_height v * response.map_width v), 8)
    ∷ [])
    r f.number

-- peak finding, and what promises as it does
peaks-refuse : (size w h ring window radius : ℕ) (cs : List Corner) (ties held : ℕ) (b b' : Slices) (r : Result Peaks Refusal)
    → detect.PeaksAdded (detect.conditions size w h ring window radius) cs ties held b r b' → Refuses (1 ∷ 2 ∷ 3 ∷ 10 ∷ []) r
unfolding detect.conditions detect.refusal_of
peaks-refuse size w h ring window radius cs ties held b b' r f =
    refused-one (detect.conditions size w h ring window radius ++ ((ltb (places_of b) (held + length cs), 10) ∷ [])) r f.number

search-refuses : (search : ℕ → ℕ → ℕ → Float → ℕ → ℕ → ℕ → Search) → PeaksRefuse search
search-refuses search m w h ring t window least radius b b' held r f = peaks-refuse (length m) w h ring window radius _ _ held b b' r f

refine-refuses : (radius : ℕ) (x y : Float) (has_map : Bool) (m : List Float) (w h : ℕ) (r : Outcome) → Refined radius x y has_map m w h r
    → RefusesBy Refused (1 ∷ 2 ∷ 3 ∷ 4 ∷ []) r
unfolding center.refusal_of
refine-refuses radius x y has_map m w h r f e q =
    let above : 0 < refusal_number e = omega (arith, refused-above e) in
    numbered-one (center.conditions radius x y has_map (length m) w h) (refusal_number e) (sym (ap center.number_of q) ∙ f.number) above

-- the merge entries
merge-numbers : (four five ten : Bool) (r : Result ℕ Refusal) → number_of r ≡ lowest ((four, 4) ∷ (five, 5) ∷ (ten, 10) ∷ [])
    → Refuses (4 ∷ 5 ∷ 10 ∷ []) r
merge-numbers four five ten r f = refused-one ((four, 4) ∷ (five, 5) ∷ (ten, 10) ∷ []) r f

merge-refuses : (radius : Float) (places count : ℕ) (b : Slices) (r : Result ℕ Refusal)
    → number_of r ≡ merge.refusal_of radius places count b → Refuses (4 ∷ 5 ∷ 10 ∷ []) r
unfolding merge.refusal_of
merge-refuses radius places count b r f =
    merge-numbers (not (is_off radius) && any corner_outside (corners_of b (min count places))) (radius_outside radius)
    (ltb places count) r f

apart-refuses : (radius : Float) (places count : ℕ) (b : Slices) (r : Result ℕ Refusal)
    → number_of r ≡ refusal_apart radius places count b → Refuses (4 ∷ 5 ∷ 10 ∷ []) r
unfolding refusal_apart
apart-refuses radius places count b r f =
    merge-numbers (not (is_off radius) && any corner_outside (corners_of b (min count (places_of b)))) (radius_outside radius)
    (ltb (places_of b) count || ltb places count) r f

slice-refuses : (radius : Float) (count : ℕ) (cs : List Corner) (b : Slices) (r : Result ℕ Refusal)
    → number_of r ≡ refusal_for radius count cs b → Refuses (4 ∷ 5 ∷ 10 ∷ []) r
unfolding refusal_for
slice-refuses radius count cs b r f =
    merge-numbers (not (is_off radius) && any corner_outside (take count cs)) (radius_outside radius) (ltb (shared_places cs b) count) r f

frame-refuses : (choose : FrameParams → Choice) → FrameRefuses choose
unfolding frame.refusal_of conditions
frame-refuses choose p img w h b b' r f =
    refused-one
    (conditions p (length img) w h (length b.map) (length b.levels) ++ ((frame.too_many (frame_pass p img w h (choose p)) b, 10) ∷ []))
    r f.number

-- a frame whose image is as long as its sides say is not refused as 2
frame-fitting : (choose : Choice) (p : FrameParams) (img : List ℕ) (w h : ℕ) (b b' : frame.Buffers) (r : Result Found Refusal)
    → length img ≡ w * h → frame.FrameFound choose p img w h b r b' → Refuses (1 ∷ 3 ∷ 5 ∷ 8 ∷ 9 ∷ 10 ∷ []) r
unfolding frame.refusal_of conditions
frame-fitting choose p img w h b b' r fits f =
    refused-one
    ((is_large w h, 1)
    ∷ (not (parameters_fit p), 3)
    ∷ (radius_outside p.merge_radius, 5)
    ∷ (ltb (length b.map) (w * h), 8)
    ∷ (is_level_buffer_short (ask (length img) (length b.levels) w h p.levels p.minimum_side), 9)
    ∷ (frame.too_many (frame_pass p img w h choose) b, 10)
    ∷ [])
    r (f.number ∙ rw (eq-eqb (length img) (w * h) fits))

photograph-refuses : (choose : FrameParams → Choice) → PhotographRefuses choose
photograph-refuses choose p upload b b' r f e q = go (pgm.refusal_of upload) refl
  where
    upload-one : refusal_number e ≡ pgm.refusal_of upload → OneOf (refusal_number e) (1 ∷ 12 ∷ 13 ∷ [])
    upload-one same = unfold pgm.refusal_of pgm.conditions in
        (numbered-one (pgm.conditions upload) (refusal_number e) same (omega (arith, refused-above e)))

    go : (n : ℕ) → pgm.refusal_of upload ≡ n → OneOf (refusal_number e) (1 ∷ 3 ∷ 5 ∷ 8 ∷ 9 ∷ 10 ∷ 12 ∷ 13 ∷ [])
    go zero none =
        widen (refusal_number e) (1 ∷ 3 ∷ 5 ∷ 8 ∷ 9 ∷ 10 ∷ []) (1 ∷ 3 ∷ 5 ∷ 8 ∷ 9 ∷ 10 ∷ 12 ∷ 13 ∷ []) refl
        (frame-fitting (choose p) p (pgm.pixels_in upload) (width_of upload) (height_of upload) b b' r (pixels-length upload none)
        (photograph-accepted (choose p) p upload b b' r f none) e q)
    go (suc n) some =
        let same = sym (ap number_of q) ∙ photograph-number (choose p) p upload b b' r f (λ z. let no : ⊥ = omega arith in no) in
        widen (refusal_number e) (1 ∷ 12 ∷ 13 ∷ []) (1 ∷ 3 ∷ 5 ∷ 8 ∷ 9 ∷ 10 ∷ 12 ∷ 13 ∷ []) refl (upload-one same)

limits-refuse : (low high : List ℕ) (w h ring lows highs : ℕ) (r : Result (Unit {0}) Refusal)
    → number_of r ≡ limits.refusal_of low high w h ring lows highs → Refuses (1 ∷ 2 ∷ 3 ∷ 8 ∷ 15 ∷ []) r
unfolding limits.refusal_of
limits-refuse low high w h ring lows highs r f e q =
    widen (refusal_number e) (1 ∷ 2 ∷ 2 ∷ 15 ∷ 3 ∷ 8 ∷ 8 ∷ []) (1 ∷ 2 ∷ 3 ∷ 8 ∷ 15 ∷ []) refl
    (refused-one (limits.conditions low high w h ring lows highs) r f e q)

sure-refuses : (lows highs w h ring window centroid : ℕ) (q : Place) (r : Result Bool Refusal)
    → number_of r ≡ sure.refusal_of lows highs w h ring window centroid q → Refuses (1 ∷ 2 ∷ 3 ∷ 14 ∷ []) r
unfolding sure.refusal_of
sure-refuses lows highs w h ring window centroid q r f e t =
    widen (refusal_number e) (1 ∷ 2 ∷ 2 ∷ 3 ∷ 14 ∷ []) (1 ∷ 2 ∷ 3 ∷ 14 ∷ []) refl
    (refused-one (sure.conditions lows highs w h ring window centroid q) r f e t)

holding-refuses : (kind start time : ℕ) (r : Result Holding Refusal) → StateTold kind start time r → Refuses (6 ∷ 20 ∷ []) r
unfolding retention.refusal_of
holding-refuses kind start time r f =
    refused-one ((not (retention.known kind), 6) ∷ (retention.is_late start || retention.is_late time, 20) ∷ []) r f.number

pub total : Total
unfolding build_refusal_of level_refusal_of detect.conditions multiscale.refusal_of showing.refusal_of striking.refusal_of pgm.refusal_of
    pgm.conditions writer.refusal_of retouch.refusal_of retention.refusal_of
total = record {
  chess_response_u8_patch = λ img w h ring x0 y0 x1 y1 d e r f. response-refuses (view_of img w h ring x0 y0 x1 y1) _ ring d e r f;
  inner_patch = λ img w h ring x0 y0 x1 y1 margin d e r f. response-refuses (view_of img w h ring x0 y0 x1 y1) _ ring d e r f;
  build_pyramid = λ base w h count least d e r f.
      let a = ask (length base) (length d) w h count least in
      refused-one ((is_large w h, 1) ∷ (is_misfit (length base) w h, 2) ∷ (is_level_buffer_short a, 9) ∷ []) r f.number;
  level_at = λ a k r f. refused-one
      ((is_large a.w a.h, 1) ∷ (is_misfit a.pixels a.w a.h, 2) ∷ (is_absent a k, 3) ∷ (is_level_buffer_short a, 9) ∷ []) r f.number;
  find_peaks = λ exact. search-refuses (detect.search_by exact);
  has_peaks = λ m w h ring t window least radius wanted r f. refused-one (detect.conditions (length m) w h ring window radius) r f.number;
  add_map_corners = λ p exact m w h held b b' r f. peaks-refuse (length m) w h p.ring p.window p.centroid_radius _ _ held b b' r f;
  add_row_corners = λ p exact m w h a z held b b' r f. peaks-refuse (length m) w h p.ring p.window
      p.centroid_radius _ _ held b b' r f;
  refine = refine-refuses;
  compute_roi = λ c s r f. refused-one (multiscale.conditions c s) r f.number;
  merge_corners_simple = λ radius count b b' r f. merge-refuses radius (places_of b) count b r f.number;
  merge_within = λ radius places count b b' r f. merge-refuses radius (min places (places_of b)) count b r f.number;
  merge_by_table = λ radius count b b' table table' r f. merge-refuses radius (places_of b) count b r f.merges.number;
  merge_apart = λ radius count b d d' r f. apart-refuses radius (places_of d) count b r f.number;
  merge_corners_naive = λ radius count b b' r f. merge-refuses radius (places_of b) count b r f.number;
  merge_corner_slice = λ radius count cs cs' b b' r f. slice-refuses radius count cs b r f.number;
  show_corner = λ b e place r f. refused-one (showing.conditions (places_of b) e.count place) r f.number;
  strike_corner = λ b b' e e' place change r f. refused-one (striking.conditions (places_of b) e place change) r f.number;
  find_corners = λ exact. frame-refuses (λ p. choice_of p exact);
  read_pgm = λ upload r f. refused-one (pgm.conditions upload) r f.number;
  find_pgm_corners = λ exact. photograph-refuses (λ p. choice_of p exact);
  read_frame = λ input pixels pixels' r f e q. frame-few input (refusal_number e)
      (refusal-found input pixels e pixels' (subst (λ (a : Result Header Refusal). FrameRead input pixels a pixels') q f)).0;
  write_frame = λ h pixels out out' r f. refused-one (writer.conditions h pixels (length out)) r f.number;
  write_corners = λ b count out out' r f. refused-one ((ltb (places_of b) count || ltb 512 count, 10) ∷ []) r f.number;
  retouch = λ w h ring q value img m r img' m' f. refused-one (retouch.conditions (length img) (length m) w h ring q) r f.number;
  response_limits = λ low high w h ring lows highs r lows' highs' f.
      limits-refuse low high w h ring (length lows) (length highs) r f.number;
  sure_peak = λ lows highs w h ring threshold window least centroid q r f.
      sure-refuses (length lows) (length highs) w h ring window centroid q r f.number;
  holding = holding-refuses;
}
