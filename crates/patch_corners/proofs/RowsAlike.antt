-- Two maps that begin alike have the same corners and ties in the rows from a border on up to a border before the end of what is alike, and
-- those of two stretches of rows, one after the other, are those of both. Assumes nothing.
use Prim.Native.Nat.{ℕ, ◌+◌, ◌-◌, ◌*◌, ◌<◌, ◌≤◌, min, max}
use native.Mathlib.Nat.{mul-le-mul_right, suc-mul}
use native.Mathlib.Omega.{arith}
use native.Mathlib.Decide.{dec_lt}
use mathlib.Core.Path.{◌≡◌, sym, ap, subst, ◌∙◌}
use mathlib.Core.Bool.{Bool, true}
use mathlib.Core.List.{List, [], ◌∷◌, ◌++◌, map, map-append, append-nil}
use lib.ListN.{length, take, drop, get_or, length-drop, get_or-append}
use lib.Seq.{take_at, drop-append-le}
use lib.Ieee.{Float, nan}
use Rattle.lists.specs.Places.{Place, block, keep, sum_of}
use Rattle.lists.proofs.Places.{block-end, keep_append}
use Rattle.lists.proofs.Parts.{block-split}
use Rattle.lists.proofs.Members.{all-mapped}
use Rattle.float32.specs.Float32.{float_of}
use Rattle.corner_list.specs.declared.Corner.{Corner}
use Rattle.detect.specs.declared.Search.{Search}
use Rattle.detect.specs.Internal.{Inside}
use Rattle.detect.specs.Detect.{peak_in, peaks_in, start_at, starts_in, ties_at, ties_in}
use Rattle.detect.proofs.Nearby.{map-alike}
use Rattle.center_of_mass.specs.declared.Outcome.{Outcome}
use Rattle.center_of_mass.specs.CenterOfMass.{refined}
use Rattle.center_of_mass.proofs.Alike.{refined-alike}
use Rattle.frame_params.specs.declared.FrameParams.{FrameParams}
use Rattle.patch_corners.specs.MapCorners.{centre_or_seed, centred, search_with, peaks_in_rows, centres_in_rows, ties_in_rows}
use Rattle.patch_corners.specs.Internal.{lowered}
use Rattle.patch_corners.proofs.PartOfRows.{part, each-peak, whole_row}
use Rattle.patch_corners.proofs.OfRows.{Cut, order, within, fine, centres-are, ties_are}

-- ---- a part of a list that goes on
part-front : (n k : ℕ) (s y : List Float) → n ≤ length s → k ≡ length s - n → take k (drop n (s ++ y)) ≡ drop n s
part-front n k s y l e = ap (take k) (drop-append-le n s y l) ∙ take_at (drop n s) y k (length-drop n s ∙ sym e)

-- ---- maps m and m' that are alike in the rows up to `end`
module _ (p : FrameParams) (exact : Bool) (s y y' : List Float) (w h a b end top : ℕ) (rows : length s ≡ end * w)
    (cut : Cut p (s ++ y) w h a b end top) (cut' : Cut p (s ++ y') w h a b end top) (long : length (s ++ y) ≡ length (s ++ y')) where
  ordered : top ≤ end
  ordered = order p exact (s ++ y) w h a b end top cut

  below : end ≤ h
  below = within p exact (s ++ y) w h a b end top cut

  abbrev Here : Search
  Here = search_with p exact w (end - top)

  abbrev Part : List Float
  Part = part w top end (s ++ y) ordered

  abbrev Centre : List Float → Corner → Corner
  Centre m = centred p.centroid_radius m w h

  same-part : part w top end (s ++ y') ordered ≡ Part
  same-part =
      let l : top * w ≤ length s = omega (arith, mul-le-mul_right w ordered) in
      let k : end * w - top * w ≡ length s - top * w = omega arith in
      part-front (top * w) (end * w - top * w) s y' l k ∙ sym (part-front (top * w) (end * w - top * w) s y l k)

  -- a cell of these rows
  same-cell : (i j : ℕ) → i < w → j < end → get_or (s ++ y) (j * w + i) nan ≡ get_or (s ++ y') (j * w + i) nan
  same-cell i j l k =
      let in_rows : j * w + i < length s = omega (arith, mul-le-mul_right w k, suc-mul j w) in
      get_or-append s y nan (j * w + i) in_rows ∙ sym (get_or-append s y' nan (j * w + i) in_rows)

  -- the centre of mass about a peak reaches no further down
  same-centre : (q : Place) → Inside w (end - top) Here.border q
      → Centre (s ++ y) (lowered top (start_at Part Here q)) ≡ Centre (s ++ y') (lowered top (start_at Part Here q))
  unfolding centred
  same-centre q i =
      let wide = (fine p exact (s ++ y) w h a b end top cut).wide in
      let high = (fine p exact (s ++ y) w h a b end top cut).high in
      ap (λ (o : Outcome). centre_or_seed o (lowered top (start_at Part Here q)))
      (subst (λ (v : Float). refined p.centroid_radius (float_of q.x) v true (s ++ y) w h
      ≡ refined p.centroid_radius (float_of q.x) v true (s ++ y') w h)
      (sym (whole_row q.y top (omega (arith, i.bottom)) (omega arith)))
      (refined-alike p.centroid_radius (s ++ y) (s ++ y') w h q.x (q.y + top) (omega (arith, i.right))
      (omega (arith, i.bottom)) long
      (omega (arith, i.left)) (omega (arith, i.right)) (omega (arith, i.top)) (omega (arith, i.bottom))
      (λ x z c d e f. same-cell x z (omega (arith, i.right)) (omega (arith, i.bottom)))))

  pub centres-alike : centres_in_rows p exact (s ++ y) w h a b ≡ centres_in_rows p exact (s ++ y') w h a b
  centres-alike =
      sym (centres-are p exact (s ++ y) w h a b end top cut)
      ∙ map-alike (λ c. Centre (s ++ y) (lowered top c)) (λ c. Centre (s ++ y') (lowered top c)) (starts_in Part Here)
      (all-mapped (λ c. Centre (s ++ y) (lowered top c) ≡ Centre (s ++ y') (lowered top c)) (start_at Part Here) (peaks_in Part Here)
      (each-peak p exact w h top end (s ++ y) ordered below (fine p exact (s ++ y) w h a b end top cut).high
      (λ q. Centre (s ++ y) (lowered top (start_at Part Here q)) ≡ Centre (s ++ y') (lowered top (start_at Part Here q))) same-centre))
      ∙ ap (λ (l : List Float). map (λ c. Centre (s ++ y') (lowered top c)) (starts_in l Here)) (sym same-part)
      ∙ centres-are p exact (s ++ y') w h a b end top cut'

  pub ties-alike : ties_in_rows p exact (s ++ y) w h a b ≡ ties_in_rows p exact (s ++ y') w h a b
  ties-alike =
      sym (ties_are p exact (s ++ y) w h a b end top cut)
      ∙ ap (λ (l : List Float). ties_in l Here) (sym same-part)
      ∙ ties_are p exact (s ++ y') w h a b end top cut'

pub sum-append : {A : Type 0} (X : A → ℕ) (s t : List A) → sum_of X (s ++ t) ≡ sum_of X s + sum_of X t
sum-append X [] t = omega arith
sum-append X (a ∷ s) t = omega (arith, sum-append X s t)

-- ---- rows a up to b, and then b up to c
module _ (p : FrameParams) (exact : Bool) (m : List Float) (w h a b c : ℕ) (first : a ≤ b) (then : b ≤ c) where
  abbrev There : Search
  There = search_with p exact w h

  rows_split : (border left right : ℕ) → block left right (max a border) (min c (h - border))
      ≡ block left right (max a border) (min b (h - border)) ++ block left right (max b border) (min c (h - border))
  rows_split border left right =
      elim (dec_lt b (max a border)) [
        | yes l ↦
            let e : max b border ≡ max a border = omega arith in
            rw (block-end left right (max a border) (min b (h - border)) (omega arith), e)
        | no g ↦
            elim (dec_lt b (h - border)) [
              | yes l ↦
                  let e : min b (h - border) ≡ b = omega arith in
                  let f : max b border ≡ b = omega arith in
                  rw (e, f) (block-split left right (max a border) b (min c (h - border)) (omega arith) (omega arith))
              | no k ↦ after k
            ]
      ]
    where
      after : (b < h - border → ⊥) → block left right (max a border) (min c (h - border))
          ≡ block left right (max a border) (min b (h - border)) ++ block left right (max b border) (min c (h - border))
      after k =
          let e : min b (h - border) ≡ h - border = omega arith in
          let f : min c (h - border) ≡ h - border = omega arith in
          rw (e, f, block-end left right (max b border) (h - border) (omega arith))
          (sym (append-nil (block left right (max a border) (h - border))))

  peaks-split : peaks_in_rows m There a c ≡ peaks_in_rows m There a b ++ peaks_in_rows m There b c
  peaks-split = go There.border
    where
      go : (border : ℕ)
          → keep (peak_in m There) (block border (w - border) (max a border) (min c (h - border)))
          ≡ keep (peak_in m There) (block border (w - border) (max a border) (min b (h - border)))
          ++ keep (peak_in m There) (block border (w - border) (max b border) (min c (h - border)))
      go border =
          ap (keep (peak_in m There)) (rows_split border border (w - border))
          ∙ keep_append (peak_in m There) (block border (w - border) (max a border) (min b (h - border)))
          (block border (w - border) (max b border) (min c (h - border)))

  pub centres-split : centres_in_rows p exact m w h a c ≡ centres_in_rows p exact m w h a b ++ centres_in_rows p exact m w h b c
  centres-split =
      ap (λ (l : List Place). map Centre (map (start_at m There) l)) peaks-split
      ∙ ap (map Centre) (map-append (start_at m There) (peaks_in_rows m There a b) (peaks_in_rows m There b c))
      ∙ map-append Centre (map (start_at m There) (peaks_in_rows m There a b)) (map (start_at m There) (peaks_in_rows m There b c))
    where
      Centre : Corner → Corner
      Centre = centred p.centroid_radius m w h

  pub ties-split : ties_in_rows p exact m w h a c ≡ ties_in_rows p exact m w h a b + ties_in_rows p exact m w h b c
  ties-split =
      ap (sum_of (ties_at m There)) peaks-split ∙ sum-append (ties_at m There) (peaks_in_rows m There a b) (peaks_in_rows m There b c)
