-- Demand 2: "Response maps, peaks, centroids, pyramid levels, search boxes and merged corners are then, bit for bit,
-- those of the scalar Rust on all that isn't refused". The definitions named here have the Rust's operations in its
-- order; that they do is checked by reading, file beside file, and by running (docs/THEOREM.md). The statement here is
-- that a call which is not refused leaves exactly these values in its results.
use Rattle.std.specs.Prelude.{Option, ℕ, ◌<◌, ◌≡◌, Bool, cond, List, take, Float, Result, Ok}
use Rattle.lists.specs.declared.refusal.Refusal.{Refusal}
use Rattle.lists.specs.Refusals.{number_of}
use Rattle.lists.specs.Buffer.{Written}
use Rattle.response.specs.Patch.{cells}
use Rattle.pyramid.specs.Pyramid.{level_pixels}
use Rattle.pyramid.specs.Build.{Built}
use Rattle.pyramid.specs.Level.{level_in}
use Rattle.corner_list.specs.declared.Corner.{Corner}
use Rattle.corner_list.specs.CornerList.{Slices, places_of, corners_of}
use Rattle.detect.specs.Detect.{starts_in}
use Rattle.center_of_mass.specs.declared.Outcome.{Outcome}
use Rattle.center_of_mass.specs.declared.Outcome.TheVariants.{Rejected}
use Rattle.center_of_mass.specs.CenterOfMass as center
use Rattle.center_of_mass.specs.Promise.{Refined}
use Rattle.multiscale.specs.declared.RoiContext.{RoiContext}
use Rattle.multiscale.specs.declared.Roi.{Roi}
use Rattle.multiscale.specs.Multiscale as multiscale
use Rattle.multiscale.specs.Promise.{Boxed}
use Rattle.merge.specs.Merge.{result_of, Merges}
use Rattle.merge.specs.Table.{MergesByTable}
use Rattle.merge_naive.specs.MergeNaive.{naive_of, MergesNaive}
use Rattle.merge_slice.specs.MergeSlice.{MergesSlice}
use Rattle.finder.specs.Finder.{output_of}
use Rattle.demands.specs.ResponseCall.{ResponseCall, view_in, map_of}
use Rattle.demands.specs.PeakCall.{PeakCall, search_in}
use Rattle.demands.specs.PeaksAlike.{program_list}
use Rattle.demands.specs.FrameExact.{FrameCall, frame_list}
use Rattle.frame.specs.Frame.{pass_of}

-- a field for each function, by its name
pub record BitForBit : Type 0 where
  -- "Response maps": at the start of the buffer, in row order
  pub chess_response_u8_patch : (c : ResponseCall) → map_of c ≡ cells (view_in c)
  -- "peaks": after the corners that the buffer held, by computed values
  pub find_peaks : {m : List Float} {w h : ℕ} (p : PeakCall m w h)
      → program_list p ≡ starts_in m (search_in p)
  -- "centroids"
  pub refine : (radius : ℕ) (x y : Float) (has_map : Bool) (m : List Float) (w h : ℕ) (r : Outcome)
      → Refined radius x y has_map m w h r → center.number_of r ≡ 0
      → r ≡ cond has_map (center.outcome_of radius x y m w h) (Rejected x y)
  -- "pyramid levels": each as `level` returns it from the buffer
  pub build_pyramid : (base : List ℕ) (w h count least : ℕ) (d e : List ℕ) (n : ℕ)
      → Built base w h count least d (Ok n) e → (k : ℕ) → k < n
      → level_in base e w h count least k ≡ level_pixels base w h k
  -- "search boxes"
  pub compute_roi : (c : RoiContext) (s : Corner) (r : Result (Option Roi) Refusal) → Boxed c s r
      → number_of r ≡ 0
      → r ≡ Ok (multiscale.bounds (multiscale.span_on c c.width s.x) (multiscale.span_on c c.height s.y))
  -- "merged corners": at the start of the buffer, or of the slice
  pub merge_corners_simple : (radius : Float) (count : ℕ) (b b' : Slices) (n : ℕ)
      → Merges radius (places_of b) count b (Ok n) b'
      → corners_of b' n ≡ result_of radius (corners_of b count)
  pub merge_by_table : (radius : Float) (count : ℕ) (b b' : Slices) (table table' : List Float) (n : ℕ)
      → MergesByTable radius count b table (Ok n) b' table' → corners_of b' n ≡ result_of radius (corners_of b count)
  pub merge_corners_naive : (radius : Float) (count : ℕ) (b b' : Slices) (n : ℕ)
      → MergesNaive radius count b (Ok n) b'
      → corners_of b' n ≡ naive_of radius (corners_of b count)
  pub merge_corner_slice : (radius : Float) (count : ℕ) (cs cs' : List Corner) (b b' : Slices) (n : ℕ)
      → MergesSlice radius count cs b (Ok n) cs' b'
      → take n cs' ≡ result_of radius (take count cs)
  -- and a whole frame: the pass that is composed of these
  pub find_corners : (c : FrameCall)
      → frame_list c ≡ (pass_of c.parameters c.img c.w c.h).corners
  -- and the bytes that the program writes, `text[..end]`
  pub find : (input text text' : List ℕ) (end : ℕ) → Written (output_of input) text end text'
      → take end text' ≡ output_of input
