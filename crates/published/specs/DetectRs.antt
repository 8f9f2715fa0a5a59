-- detect.rs: `detect_peaks_from_response_with_refine_radius`.
use Rattle.std.specs.Prelude.{ℕ, ◌-◌, ◌*◌, ◌≡◌, cond, not, ◌||◌, List, [], ◌∷◌, leb, ltb, eqb, pos, ◌+ℤ◌, Float}
use Rattle.std.specs.Float.{binary32}
use Rattle.std.specs.Float.Ieee.{of_int, le}
use Rattle.lists.specs.Places.{Place, range, flat_map}
use Rattle.float32.specs.Float32.{zero}
use Rattle.corner_list.specs.declared.Corner.{Corner}
use Rattle.detect.specs.Peaks.{value_at}
use Rattle.detect.specs.Detect.{search_of, starts_in}
use Rattle.published.specs.Rust.{as_usize, max_z, IsMax}
use Rattle.published.specs.NeighborsRs.{is_local_max_rs, count_positive_rs}

-- one iteration of its loops, at a cell: the corner that is pushed, if any. The Rust's corner has no neighbours; here
-- it also has the count that its last test compares
unfoldable pub peak_rs : List Float → ℕ → ℕ → Float → ℕ → ℕ → Place → List Corner
peak_rs m w h thr nms least p =
    let v = value_at m w p in
    cond (le v thr) []
    (cond (not (is_local_max_rs m w h p nms v)) []
    (cond (ltb (count_positive_rs m w h p nms) least) []
    (record {
      x = of_int binary32 (pos p.x);
      y = of_int binary32 (pos p.y);
      strength = v;
      neighbours = count_positive_rs m w h p nms;
    } ∷ [])))

unfoldable pub peaks_rs : List Float → ℕ → ℕ → ℕ → Float → ℕ → ℕ → ℕ → List Corner
peaks_rs m w h ring thr nms least refine =
    let border = as_usize (max_z (pos ring +ℤ pos nms +ℤ pos refine) (pos 0)) in
    cond (eqb w 0 || eqb h 0) []
    (cond (leb w (2 * border) || leb h (2 * border)) []
    (flat_map (λ y. flat_map (λ x. peak_rs m w h thr nms least (record { x = x; y = y }))
    (range border (w - border))) (range border (h - border))))

-- whatever `threshold.max(0.0)` gives
abbrev pub PeaksAsPublished : Type 0
PeaksAsPublished =
    (m : List Float) (w h ring : ℕ) (threshold thr : Float) (nms least refine : ℕ) → IsMax threshold zero thr
    → peaks_rs m w h ring thr nms least refine ≡ starts_in m (search_of w h ring threshold nms least refine)
