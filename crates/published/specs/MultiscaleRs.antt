-- multiscale.rs: `make_roi_context` and `RoiContext::compute_roi`, with `roi_border` of dense.rs.
use Rattle.std.specs.Prelude.{ℕ, ◌≡◌, cond, ◌||◌, T, ℤ, pos, ◌+ℤ◌, ◌-ℤ◌, ◌*ℤ◌, Float, Option, None, Some, Ok}
use Rattle.std.specs.Int.Signed.{lt_z, le_z}
use Rattle.std.specs.Float.{binary32}
use Rattle.std.specs.Float.Ieee.{of_int, mul, div, fits}
use Rattle.corner_list.specs.declared.Corner.{Corner}
use Rattle.multiscale.specs.declared.RoiContext.{RoiContext}
use Rattle.multiscale.specs.declared.Roi.{Roi}
use Rattle.multiscale.specs.Multiscale.{refusal_of, roi_of}
use Rattle.published.specs.Rust.{as_usize, max_z, round_f, ceil_f, cut_i32}
use Rattle.published.specs.PyramidRs.{one32, scale_of}

-- a `RoiContext`
pub record ContextRs : Type 0 where
  pub inv_scale : Float
  pub border : ℤ
  pub safe_margin : ℤ
  pub roi_r : ℤ
  pub base_w : ℤ
  pub base_h : ℤ

-- `roi_border` of the ChESS detector
abbrev pub border_rs : ℕ → ℕ → ℤ
border_rs ring nms = max_z (pos ring +ℤ pos nms) (pos 0)

-- `make_roi_context`
unfoldable pub context_rs : ℕ → ℕ → Float → ℤ → ℤ → ℕ → ContextRs
context_rs w h coarse-scale detector-border refine-border refinement-radius =
    let border = max_z (detector-border +ℤ refine-border) (pos 0) in
    let roi-r-base = cut_i32 (ceil_f (div binary32 (of_int binary32 (pos refinement-radius)) coarse-scale)) in
    let min-roi-r = border +ℤ pos 2 in
    record {
      inv_scale = div binary32 one32 coarse-scale;
      border = border;
      safe_margin = border +ℤ pos 1;
      roi_r = max_z roi-r-base min-roi-r;
      base_w = pos w;
      base_h = pos h;
    }

-- `compute_roi`: on one axis the centre, the ends and the two tests
abbrev pub centre_rs : ContextRs → Float → ℤ
centre_rs c x = cut_i32 (round_f (mul binary32 x c.inv_scale))

abbrev pub low_rs : ContextRs → ℤ → ℤ
low_rs c p = let x0 = p -ℤ c.roi_r in cond (lt_z x0 c.border) c.border x0

abbrev pub high_rs : ContextRs → ℤ → ℤ → ℤ
high_rs c side p =
    let x1 = p +ℤ c.roi_r +ℤ pos 1 in
    let max-x = side -ℤ c.border in
    cond (lt_z max-x x1) max-x x1

unfoldable pub roi_rs : ContextRs → Corner → Option Roi
roi_rs c s =
    let cx = centre_rs c s.x in
    let cy = centre_rs c s.y in
    let margin = c.safe_margin in
    let x0 = low_rs c cx in
    let y0 = low_rs c cy in
    let x1 = high_rs c c.base_w cx in
    let y1 = high_rs c c.base_h cy in
    let two-borders = pos 2 *ℤ c.border in
    cond (lt_z cx margin || lt_z cy margin || le_z (c.base_w -ℤ margin) cx || le_z (c.base_h -ℤ margin) cy) None
    (cond (le_z (x1 -ℤ x0) two-borders || le_z (y1 -ℤ y0) two-borders) None
    (Some (record { x0 = as_usize x0; y0 = as_usize y0; x1 = as_usize x1; y1 = as_usize y1 })))

-- a seed that is not refused, at the scale of its level; its coordinates are of type f32
abbrev pub RoiAsPublished : Type 0
RoiAsPublished =
    (c : RoiContext) (s : Corner) → T (fits binary32 s.x) → T (fits binary32 s.y) → refusal_of c s ≡ 0
    → roi_of c s
    ≡ Ok (roi_rs (context_rs c.width c.height (scale_of c.level) (border_rs c.ring c.window)
    (pos c.centroid_radius)
    c.search_radius) s)
