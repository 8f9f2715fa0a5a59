-- Demand 1 (RULES 2): "A frame handed in, with sides, pixels and parameters of any kind, comes back as a finished
-- corner list or as one of eleven numbered refusals. The conditions of each number are fixed", and so is what every
-- buffer holds afterwards.
-- Every call of a public function ends, and asks nothing of its caller; its promise gives the answer and every buffer
-- afterwards by equations.
-- Here are the promises of the functions that can refuse, word for word, with the numbers each can give. 0, which the
-- definitions use for "none", is never one of them. The requests add numbers to the eleven: 12 and 13 from request 1,
-- 14 from request 8, 15 from request 9, 16, 17 and 18 from request 10, 19 from request 11, 20 from request 13. The
-- tables that the promises name say which condition has which number, and in which order they are checked.
-- No other public function refuses. Each of these promises one equation over its arguments, and if it is lent a corner
-- buffer to be written, that its four slices are the same afterwards:
-- lists           number_of, element_or, u8::from of a Refusal
-- image_size      is_large, refusal
-- ring            ring_offsets, is_ring
-- frame_params    is_outside, parameters_fit
-- float32         abs, is_finite, lifted, is_between, from_bits, to_bits, cut_off, round_half_away
--                 (with its number, 0, and its values)
-- corner_list     is_inside; places and at of CornerBuffer and of CornerView; view and put of CornerBuffer
-- detect          refusal
-- pyramid_levels  level_count, cells_before, cells_above, build_refusal and level_refusal
-- pyramid         level (nothing if `level_at` refuses)
-- pgm             pgm_pixels (nothing if `read_pgm` refuses)
-- merge_radius    is_off, is_sized, is_outside
-- merge_refusal   refusal
-- merge_grid      position_of, position_at, grid_of, column_of, row_of, is_near, is_joined, Position::from of a Corner
-- merge_settle    settle_list (one for how many are kept, one for the buffer), settle_corner (one for the place, one
--                 for the buffer), count_with
-- clearing        clear, clear_list
-- frame_pass      refusal (of the input, before the pass)
-- stream          wanted
-- listing         write_refusal (one for its answer, one for its buffer)
-- retention       Holding::letter, list_holdings (one for its answer, one for its buffer), wanted (one for each number
--                 of its answer)
-- finder          find (likewise)
-- The functions of `capi_frame`, `capi_photo`, `capi_maps`, `capi_peaks`, `capi_lists` and `capi_formats`, for C, pass
-- on these promises and return the number.
use Rattle.std.specs.Prelude.{ℕ, min, Bool, List, [], ◌∷◌, length, ℤ, Float, Option, Result}
use Rattle.lists.specs.declared.refusal.Refusal.{Refusal}
use Rattle.response.specs.declared.Patch.{Patch}
use Rattle.response.specs.Patch.{Patched, InnerPatched}
use Rattle.pyramid_levels.specs.declared.Level.{Level}
use Rattle.pyramid.specs.Build.{Built}
use Rattle.pyramid_levels.specs.Refusals.{Ask}
use Rattle.pyramid_levels.specs.Level.{LevelFound}
use Rattle.corner_list.specs.declared.Corner.{Corner}
use Rattle.corner_list.specs.CornerList.{Slices, places_of}
use Rattle.detect.specs.declared.Search.{Search}
use Rattle.detect.specs.declared.Peaks.{Peaks}
use Rattle.detect.specs.Detect as detect
use Rattle.detect.specs.declared.enough.Enough.{Enough}
use Rattle.center_of_mass.specs.declared.Outcome.{Outcome}
use Rattle.center_of_mass.specs.declared.Outcome.TheVariants.{Refused}
use Rattle.center_of_mass.specs.Promise.{Refined}
use Rattle.multiscale.specs.declared.RoiContext.{RoiContext}
use Rattle.multiscale.specs.declared.Roi.{Roi}
use Rattle.multiscale.specs.Promise.{Boxed}
use Rattle.merge.specs.Merge.{Merges}
use Rattle.merge.specs.Apart.{MergedApart}
use Rattle.merge.specs.Table.{MergesByTable}
use Rattle.merge_naive.specs.MergeNaive.{MergesNaive}
use Rattle.merge_slice.specs.MergeSlice.{MergesSlice}
use Rattle.corner_strike.specs.Editions.{Edition}
use Rattle.corner_strike.specs.declared.showing.Shown.{Shown}
use Rattle.corner_strike.specs.Showing.{Shows}
use Rattle.corner_strike.specs.declared.striking.Strike.{Strike}
use Rattle.corner_strike.specs.Striking.{Strikes}
use Rattle.frame_params.specs.declared.FrameParams.{FrameParams}
use Rattle.patch_corners.specs.OneMap.{Choice, choice_of}
use Rattle.patch_corners.specs.MapCorners.{CornersAdded, RowCornersAdded}
use Rattle.frame.specs.declared.Found.{Found}
use Rattle.frame.specs.Frame.{Buffers, FrameFound}
use Rattle.pgm.specs.declared.PgmImage.{PgmImage}
use Rattle.pgm.specs.Pgm.{PgmRead}
use Rattle.pgm_frame.specs.PgmFrame.{PhotographFound}
use Rattle.stream.specs.Answer.{FrameRead}
use Rattle.stream.specs.declared.Header.{Header}
use Rattle.frame_writer.specs.FrameWriter.{FrameWritten}
use Rattle.listing.specs.Answer.{CornersWritten}
use Rattle.retouch.specs.Promise.{Retouches}
use Rattle.response_limits.specs.Promise.{LimitsWritten}
use Rattle.sure_peak.specs.Promise.{SurePeakTold}
use Rattle.retention.specs.declared.Holding.{Holding}
use Rattle.retention.specs.Answer.{StateTold}
use Rattle.lists.specs.Places.{Place}
use Rattle.demands.specs.Numbers.{RefusesBy, Refuses}
use Rattle.demands.specs.ResponseCall.{view_of}
use Rattle.demands.specs.Enough.{HasPeaks}

-- for a search of maps, for a frame and for the frame of an upload, with any choice of peaks
abbrev pub PeaksRefuse : (ℕ → ℕ → ℕ → Float → ℕ → ℕ → ℕ → Search) → Type 0
PeaksRefuse search =
    (m : List Float) (w h ring : ℕ) (threshold : Float) (window least radius : ℕ) (b b' : Slices)
    (held : ℕ) (r : Result Peaks Refusal)
    → detect.PeaksAdded (detect.conditions (length m) w h ring window radius)
    (detect.starts_in m (search w h ring threshold window least radius))
    (detect.ties_in m (search w h ring threshold window least radius)) held b r b'
    → Refuses (1 ∷ 2 ∷ 3 ∷ 10 ∷ []) r

abbrev pub FrameRefuses : (FrameParams → Choice) → Type 0
FrameRefuses choose =
    (p : FrameParams) (img : List ℕ) (w h : ℕ) (b b' : Buffers) (r : Result Found Refusal)
    → FrameFound (choose p) p img w h b r b'
    → Refuses (1 ∷ 2 ∷ 3 ∷ 5 ∷ 8 ∷ 9 ∷ 10 ∷ []) r

abbrev pub PhotographRefuses : (FrameParams → Choice) → Type 0
PhotographRefuses choose =
    (p : FrameParams) (upload : List ℕ) (b b' : Buffers) (r : Result Found Refusal)
    → PhotographFound (choose p) p upload b r b'
    → Refuses (1 ∷ 3 ∷ 5 ∷ 8 ∷ 9 ∷ 10 ∷ 12 ∷ 13 ∷ []) r

-- a field for each function, by its name
pub record Total : Type 0 where
  pub chess_response_u8_patch : (img : List ℕ) (w h ring x0 y0 x1 y1 : ℕ) (d e : List Float) (r : Result Patch Refusal)
      → Patched (view_of img w h ring x0 y0 x1 y1) ring d r e
      → Refuses (1 ∷ 2 ∷ 3 ∷ 8 ∷ []) r
  pub inner_patch : (img : List ℕ) (w h ring x0 y0 x1 y1 margin : ℕ) (d e : List Float) (r : Result Patch Refusal)
      → InnerPatched (view_of img w h ring x0 y0 x1 y1) margin ring d r e
      → Refuses (1 ∷ 2 ∷ 3 ∷ 8 ∷ []) r
  pub build_pyramid : (base : List ℕ) (w h count least : ℕ) (d e : List ℕ) (r : Result ℕ Refusal)
      → Built base w h count least d r e
      → Refuses (1 ∷ 2 ∷ 9 ∷ []) r
  pub level_at : (a : Ask) (k : ℕ) (r : Result Level Refusal) → LevelFound a k r
      → Refuses (1 ∷ 2 ∷ 3 ∷ 9 ∷ []) r
  pub find_peaks : (exact : Bool) → PeaksRefuse (detect.search_by exact)
  pub has_peaks : (m : List Float) (w h ring : ℕ) (threshold : Float) (window least radius wanted : ℕ)
      (r : Result Enough Refusal)
      → HasPeaks m w h ring threshold window least radius wanted r
      → Refuses (1 ∷ 2 ∷ 3 ∷ []) r
  pub add_map_corners : (p : FrameParams) (exact : Bool) (m : List Float) (w h held : ℕ) (b b' : Slices)
      (r : Result Peaks Refusal)
      → CornersAdded p exact m w h held b r b'
      → Refuses (1 ∷ 2 ∷ 3 ∷ 10 ∷ []) r
  pub add_row_corners : (p : FrameParams) (exact : Bool) (m : List Float) (w h a z held : ℕ) (b b' : Slices)
      (r : Result Peaks Refusal) → RowCornersAdded p exact m w h a z held b r b'
      → Refuses (1 ∷ 2 ∷ 3 ∷ 10 ∷ []) r
  pub refine : (radius : ℕ) (x y : Float) (has_map : Bool) (m : List Float) (w h : ℕ) (r : Outcome)
      → Refined radius x y has_map m w h r
      → RefusesBy Refused (1 ∷ 2 ∷ 3 ∷ 4 ∷ []) r
  pub compute_roi : (c : RoiContext) (s : Corner) (r : Result (Option Roi) Refusal) → Boxed c s r
      → Refuses (1 ∷ 3 ∷ 4 ∷ []) r
  pub merge_corners_simple : (radius : Float) (count : ℕ) (b b' : Slices) (r : Result ℕ Refusal)
      → Merges radius (places_of b) count b r b'
      → Refuses (4 ∷ 5 ∷ 10 ∷ []) r
  pub merge_within : (radius : Float) (places count : ℕ) (b b' : Slices) (r : Result ℕ Refusal)
      → Merges radius (min places (places_of b)) count b r b'
      → Refuses (4 ∷ 5 ∷ 10 ∷ []) r
  pub merge_by_table : (radius : Float) (count : ℕ) (b b' : Slices) (table table' : List Float) (r : Result ℕ Refusal)
      → MergesByTable radius count b table r b' table'
      → Refuses (4 ∷ 5 ∷ 10 ∷ []) r
  pub merge_apart : (radius : Float) (count : ℕ) (b d d' : Slices) (r : Result ℕ Refusal)
      → MergedApart radius count b d r d'
      → Refuses (4 ∷ 5 ∷ 10 ∷ []) r
  pub merge_corners_naive : (radius : Float) (count : ℕ) (b b' : Slices) (r : Result ℕ Refusal)
      → MergesNaive radius count b r b'
      → Refuses (4 ∷ 5 ∷ 10 ∷ []) r
  pub merge_corner_slice : (radius : Float) (count : ℕ) (cs cs' : List Corner) (b b' : Slices) (r : Result ℕ Refusal)
      → MergesSlice radius count cs b r cs' b'
      → Refuses (4 ∷ 5 ∷ 10 ∷ []) r
  pub show_corner : (b : Slices) (e : Edition) (place : ℕ) (r : Result Shown Refusal) → Shows b e place r
      → Refuses (10 ∷ 17 ∷ []) r
  pub strike_corner : (b b' : Slices) (e e' : Edition) (place change : ℕ) (r : Result Strike Refusal)
      → Strikes b e place change r b' e'
      → Refuses (10 ∷ 16 ∷ 17 ∷ 18 ∷ []) r
  pub find_corners : (exact : Bool) → FrameRefuses (λ p. choice_of p exact)
  pub read_pgm : (upload : List ℕ) (r : Result PgmImage Refusal) → PgmRead upload r
      → Refuses (1 ∷ 12 ∷ 13 ∷ []) r
  pub find_pgm_corners : (exact : Bool) → PhotographRefuses (λ p. choice_of p exact)
  pub read_frame : (input pixels pixels' : List ℕ) (r : Result Header Refusal) → FrameRead input pixels r pixels'
      → Refuses (1 ∷ 3 ∷ 5 ∷ 6 ∷ 7 ∷ 11 ∷ []) r
  pub write_frame : (h : Header) (pixels out out' : List ℕ) (r : Result ℕ Refusal) → FrameWritten h pixels out r out'
      → Refuses (1 ∷ 2 ∷ 3 ∷ 5 ∷ 19 ∷ []) r
  pub write_corners : (b : Slices) (count : ℕ) (out out' : List ℕ) (r : Result ℕ Refusal)
      → CornersWritten b count out r out'
      → Refuses (10 ∷ []) r
  pub retouch : (w h ring : ℕ) (q : Place) (value : ℕ) (img : List ℕ) (m : List Float) (r : Result ℕ Refusal)
      (img' : List ℕ) (m' : List Float)
      → Retouches w h ring q value img m r img' m'
      → Refuses (1 ∷ 2 ∷ 3 ∷ 14 ∷ []) r
  pub response_limits : (low high : List ℕ) (w h ring : ℕ) (lows highs : List ℤ)
      (r : Result (Unit {0}) Refusal) (lows' highs' : List ℤ)
      → LimitsWritten low high w h ring lows highs r lows' highs'
      → Refuses (1 ∷ 2 ∷ 3 ∷ 8 ∷ 15 ∷ []) r
  pub sure_peak : (lows highs : List ℤ) (w h ring threshold window least centroid : ℕ) (q : Place)
      (r : Result Bool Refusal)
      → SurePeakTold lows highs w h ring threshold window least centroid q r
      → Refuses (1 ∷ 2 ∷ 3 ∷ 14 ∷ []) r
  pub holding : (kind start time : ℕ) (r : Result Holding Refusal) → StateTold kind start time r
      → Refuses (6 ∷ 20 ∷ []) r
