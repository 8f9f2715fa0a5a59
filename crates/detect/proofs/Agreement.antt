-- Two readings of one map, as the computed and the exact values: when their peak lists are alike. Assumes nothing.
use Rattle.std.proofs.Common.{◌≡◌, ℕ, ◌-◌, ◌<◌, ◌≤◌, Bool, true, false, not, ◌↔◌, List, sym, ap, ◌∙◌, le_trans, arith, le-leb}
use mathlib.Core.Bool.{false≢true}
use Rattle.lists.specs.Places.{Place, block, count, All}
use Rattle.lists.proofs.Tests.{is_false}
use Rattle.lists.proofs.Members.{all-block, at_block, Implies, any-more, keep-fewer, alike-only, alike-if}
use Rattle.detect.specs.Peaks.{CellTests, window, beaten, positives, is_peak, peak_places}
use Rattle.detect.specs.Internal.{Inside}
use Rattle.detect.specs.Internal.{place}
use Rattle.detect.proofs.Choice.{peak-counted, peak-above, peak-unbeaten, peak-supported}
use Rattle.detect.proofs.Window.{window-in}

-- Of two readings of a map of w by h, a cell that u says is above or positive is so by v, and what v says is larger is larger by u.
pub record Stands (u v : CellTests) (w h : ℕ) : Type 0 where
  pub above : (p : Place) → p.x < w → p.y < h → u.above p ≡ true → v.above p ≡ true
  pub larger : (q p : Place) → q.x < w → q.y < h → p.x < w → p.y < h → v.larger q p ≡ true → u.larger q p ≡ true
  pub positive : (q : Place) → q.x < w → q.y < h → u.positive q ≡ true → v.positive q ≡ true

-- So a peak of u is one of v.
module _ (u v : CellTests) (w h r least : ℕ) (st : Stands u v w h) (p : Place) (px : p.x < w) (py : p.y < h) where
  -- a cell is larger than that at p
  abbrev by_u : Place → Bool
  by_u q = u.larger q p

  abbrev by_v : Place → Bool
  by_v q = v.larger q p

  unbeaten : beaten u.larger w h r p ≡ false → beaten v.larger w h r p ≡ false
  unfolding beaten
  unbeaten n =
      is_false (beaten v.larger w h r p)
      (λ b. false≢true (sym n ∙ any-more by_v by_u (window w h r p) larger b))
    where
      larger : All (Implies by_v by_u) (window w h r p)
      larger = window-in (Implies by_v by_u) w h r p (λ q i j. st.larger q p i j px py)

  supported : positives u.positive w h r p ≤ positives v.positive w h r p
  unfolding positives count
  supported =
      keep-fewer u.positive v.positive (window w h r p)
      (window-in (Implies u.positive v.positive) w h r p st.positive)

  pub peak-stands : is_peak u w h r least p ≡ true → is_peak v w h r least p ≡ true
  peak-stands e =
      let above = st.above p px py (peak-above u w h r least p e) in
      sym (peak-counted v w h r least p above (ap not (unbeaten (peak-unbeaten u w h r least p e))))
      ∙ le-leb least (positives v.positive w h r p) (le_trans (peak-supported u w h r least p e) supported)

-- And the lists are alike exactly if each peak of v inside the border is one of u.
module _ (u v : CellTests) (w h border r least : ℕ) (st : Stands u v w h) where
  abbrev OfU : Place → Bool
  OfU = is_peak u w h r least

  abbrev OfV : Place → Bool
  OfV = is_peak v w h r least

  abbrev Cells : List Place
  Cells = block border (w - border) border (h - border)

  stands : All (Implies (is_peak u w h r least) (is_peak v w h r least)) (block border (w - border) border (h - border))
  stands =
      all-block (Implies OfU OfV) border (w - border) border (h - border)
      (λ x y a b c d. peak-stands u v w h r least st (place x y) (omega arith) (omega arith))

  pub peaks_alike : (peak_places u w h border r least ≡ peak_places v w h border r least)
      ↔ ((p : Place) → Inside w h border p → is_peak v w h r least p ≡ true → is_peak u w h r least p ≡ true)
  unfolding peak_places
  peaks_alike = (
    λ e p i.
        at_block (Implies OfV OfU) border (w - border) border (h - border) (alike-only OfU OfV Cells stands e)
        p.x p.y i.left (omega (arith, i.right)) i.top (omega (arith, i.bottom)),
    λ f.
        alike-if OfU OfV Cells stands
        (all-block (Implies OfV OfU) border (w - border) border (h - border)
        (λ x y a b c d. f (place x y) (record { left = a; right = omega arith; top = c; bottom = omega arith }))),
  )
