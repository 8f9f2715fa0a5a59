-- The peaks are the published ones, whatever zero the threshold is lifted to. Assumes nothing.
use mathlib.Core.Path.{◌≡◌, refl, sym, ◌∙◌}
use mathlib.Core.Logic.{◌⊎◌, inl, inr}
use mathlib.Core.Bool.{Bool, true, false, cond, not, ◌&&◌, ◌||◌}
use mathlib.Core.List.{List, [], ◌∷◌, map}
use Prim.Native.Nat.{ℕ, ◌+◌, ◌-◌, ◌*◌, ◌≤◌}
use native.Mathlib.Decide.{dec_lt}
use native.Mathlib.Omega.{arith}
use lib.Dec.{leb, ltb, eqb}
use lib.Ieee.{Float, le, lt}
use borrow.Author.Tests.{lt-ltb, le-ltb, le-leb, lt-leb, leb-true, eqb-true}
use Rattle.lists.specs.Places.{Place, range, block, any, keep, count, flat_map}
use Rattle.lists.proofs.Places.{block-end, block-thin}
use Rattle.lists.proofs.Members.{flat_map-alike, all_of}
use Rattle.lists.proofs.Tests.{or-either}
use Rattle.float32.specs.Float32.{zero, lift}
use Rattle.corner_list.specs.declared.Corner.{Corner}
use Rattle.detect.specs.Peaks.{value_at, window, beaten, positives, is_peak, peak_places, computed}
use Rattle.detect.specs.Detect.{search_of, start_at}
use Rattle.published.specs.DetectRs.{peak_rs, peaks_rs, PeaksAsPublished}
use Rattle.published.proofs.Loops.{rows-block, flat_keep}
use Rattle.published.proofs.Window.{window-as-published}
use Rattle.published.proofs.Maximum.{Lifted, max-lifts, le-lifted}

few : (n least : ℕ) → ltb n least ≡ not (leb least n)
few n least = elim (dec_lt n least) [
  | yes l ↦ rw (lt-ltb n least l, lt-leb least n l)
  | no g ↦ rw (le-ltb n least (omega arith), le-leb least n (omega arith))
]

module _ (m : List Float) (w h ring : ℕ) (threshold thr : Float) (nms least refine : ℕ) (max : Lifted threshold thr) where
  abbrev start : Place → Corner
  start = start_at m (search_of w h ring threshold nms least refine)

  abbrev peak : Place → Bool
  peak = is_peak (computed m w (lift threshold)) w h nms least

  abbrev turn : Place → List Corner
  turn p = cond (peak p) (start p ∷ []) []

  turn_is : (p : Place) → peak_rs m w h thr nms least p ≡ turn p
  unfolding peak_rs is_peak beaten positives
  turn_is p =
      let v = value_at m w p in
      let cells = window w h nms p in
      let n = count (λ q. lt zero (value_at m w q)) cells in
      rw (le-lifted v threshold thr max, window-as-published w h nms p)
      (rw (few n least) (go (le v (lift threshold)) (any (λ q. lt v (value_at m w q)) cells) (leb least n) (start p ∷ [])))
    where
      go : (a b c : Bool) (s : List Corner) → cond a [] (cond (not (not b)) [] (cond (not c) [] s)) ≡ cond (not a && (not b && c)) s []
      go true b c s = refl
      go false true c s = refl
      go false false true s = refl
      go false false false s = refl

  loops-are : (b : ℕ) → flat_map (λ y. flat_map (λ x. peak_rs m w h thr nms least (record { x = x; y = y })) (range b (w - b)))
      (range b (h - b))
      ≡ map start (keep peak (block b (w - b) b (h - b)))
  loops-are b =
      let cells = block b (w - b) b (h - b) in
      rows-block (peak_rs m w h thr nms least) b (w - b) b (h - b)
      ∙ flat_map-alike (peak_rs m w h thr nms least) turn cells (all_of (λ p. peak_rs m w h thr nms least p ≡ turn p) turn_is cells)
      ∙ flat_keep peak start cells

-- ---- a map that is too small for the border has no cell within it
guarded : {A : Type 0} (s t : Bool) (l : List A) → (s ≡ true → l ≡ []) → (t ≡ true → l ≡ []) → cond s [] (cond t [] l) ≡ l
guarded true t l h k = sym (h refl)
guarded false true l h k = sym (k refl)
guarded false false l h k = refl

no_cell : (w h b : ℕ) → (w ≤ 2 * b) ⊎ (h ≤ 2 * b) → block b (w - b) b (h - b) ≡ []
no_cell w h b (inl l) = block-thin b (w - b) b (h - b) (omega arith)
no_cell w h b (inr l) = block-end b (w - b) b (h - b) (omega arith)

pub peaks-as-published : PeaksAsPublished
unfolding peaks_rs peak_places
peaks-as-published m w h ring threshold thr nms least refine max =
    rw (le-ltb (ring + nms + refine) 0 (omega arith), loops-are m w h ring threshold thr nms least refine (max-lifts threshold thr max) b)
    (guarded (eqb w 0 || eqb h 0) (leb w (2 * b) || leb h (2 * b)) _
    (λ e. rw (no_cell w h b (no-side (or-either (eqb w 0) (eqb h 0) e))))
    (λ e. rw (no_cell w h b (thin (or-either (leb w (2 * b)) (leb h (2 * b)) e)))))
  where
    b : ℕ
    b = ring + nms + refine

    no-side : (eqb w 0 ≡ true) ⊎ (eqb h 0 ≡ true) → (w ≤ 2 * b) ⊎ (h ≤ 2 * b)
    no-side (inl e) = inl (omega (arith, eqb-true w 0 e))
    no-side (inr e) = inr (omega (arith, eqb-true h 0 e))

    thin : (leb w (2 * b) ≡ true) ⊎ (leb h (2 * b) ≡ true) → (w ≤ 2 * b) ⊎ (h ≤ 2 * b)
    thin (inl e) = inl (leb-true w (2 * b) e)
    thin (inr e) = inr (leb-true h (2 * b) e)
