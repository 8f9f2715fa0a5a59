-- What was added of a part of a map, some rows with a border about them, is what the map has in those rows. Assumes nothing.
use Prim.Native.Nat.{ℕ, ◌+◌, ◌-◌, ◌*◌, ◌<◌, ◌≤◌, min, max}
use native.Mathlib.Nat.{mul_comm, mul-le-mul, mul-le-mul_right}
use native.Mathlib.Omega.{arith}
use native.Mathlib.Decide.{dec_lt}
use mathlib.Core.Path.{◌≡◌, sym, ap, ap₂, subst, ◌∙◌}
use mathlib.Core.Bool.{Bool}
use mathlib.Core.List.{List, map}
use lib.ListN.{length}
use lib.Ieee.{Float}
use Rattle.lists.specs.Places.{Place, block, keep, sum_of}
use Rattle.std.specs.Prelude.{Result}
use Rattle.lists.specs.declared.refusal.Refusal.{Refusal}
use Rattle.lists.specs.Refusals.{lowest}
use Rattle.lists.proofs.Places.{block-end}
use Rattle.lists.proofs.Tab.{part-length-to}
use Rattle.lists.proofs.Refusals.{lowest-past}
use Rattle.ring.proofs.Places.{ring-small}
use Rattle.corner_list.specs.declared.Corner.{Corner}
use Rattle.corner_list.specs.CornerList.{Slices, places_of}
use Rattle.detect.specs.declared.Search.{Search}
use Rattle.detect.specs.declared.Peaks.{Peaks}
use Rattle.detect.specs.Peaks.{peak_places}
use Rattle.detect.specs.Detect.{peak_in, peaks_in, start_at, starts_in, ties_at, ties_in, conditions, refusal_of, PeaksAdded}
use Rattle.detect.proofs.Answers.{Clear, Sound, clear, sound, sound-clear, found-by}
use Rattle.frame_params.specs.declared.FrameParams.{FrameParams}
use Rattle.patch_corners.specs.MapCorners.{centred, search_with, peaks_in_rows, centres_in_rows, ties_in_rows, RowCornersAdded}
use Rattle.patch_corners.specs.MapCorners.{CornersAdded}
use Rattle.patch_corners.specs.Internal.{lowered}
use Rattle.patch_corners.proofs.PartOfRows.{down, part, part-size, peaks-there, starts-there, sum-there}

-- ---- what was added, under other conditions of which none holds either
found-also : (conds conds' : List (Bool × ℕ)) → Clear conds → Clear conds'
    → (cs : List Corner) (ties held : ℕ) (b : Slices) (answer : Result Peaks Refusal) (b' : Slices)
    → PeaksAdded conds cs ties held b answer b' → PeaksAdded conds' cs ties held b answer b'
found-also conds conds' none none' cs ties held b answer b' f =
    found-by conds' cs ties held b (refusal_of conds (places_of b) held (length cs)) past answer b' f.answer f.number f.buffer
  where
    past : refusal_of conds' (places_of b) held (length cs) ≡ refusal_of conds (places_of b) held (length cs)
    past = unfold refusal_of in
        (lowest-past conds' _ none'.numbered none'.none ∙ sym (lowest-past conds _ none.numbered none.none))

-- ---- rows: the part begins a border before row a and ends a border after row b, as far as the map goes
end_row : (b h border : ℕ) → min (min b h + border) h - border ≡ min b (h - border)
end_row b h border = omega arith

top-row : (a border end : ℕ) → a - border ≤ end → border + min (a - border) end ≡ max a border
top-row a border end l = omega arith

rows_inside : (a b h border left right : ℕ)
    → block left right (border + min (a - border) (min (min b h + border) h)) (min (min b h + border) h - border)
    ≡ block left right (max a border) (min b (h - border))
rows_inside a b h border left right =
    elim (dec_lt (min (min b h + border) h) (a - border)) [
      | yes l ↦ block-end left right _ _ (late _ l)
          ∙ sym (block-end left right (max a border) (min b (h - border)) (later _ l (end_row b h border)))
      | no g ↦ ap₂ (λ (c d : ℕ). block left right c d) (top-row a border (min (min b h + border) h) (omega arith)) (end_row b h border)
    ]
  where
    late : (end : ℕ) → end < a - border → end - border ≤ border + min (a - border) end
    late end l = omega arith

    later : (end : ℕ) → end < a - border → end - border ≡ min b (h - border) → min b (h - border) ≤ max a border
    later end l e = let k : end - border ≤ max a border = omega arith in rw (← e) k

-- ---- a map of so many cells without a fault
module _ (p : FrameParams) (size w h : ℕ) (none : lowest (conditions size w h p.ring p.window p.centroid_radius) ≡ 0) where
  input : Sound size w h p.ring p.window p.centroid_radius
  input = sound size w h p.ring p.window p.centroid_radius (clear size w h p.ring p.window p.centroid_radius none)

  pub low : h ≤ 4096
  low = input.high

  pub border-small : p.ring + p.window + p.centroid_radius ≤ 42
  border-small = omega (arith, ring-small p.ring input.ring_is, input.in_window, input.in-radius)

-- its rows from `top` up to `end` are those of a up to b with a border about them
pub record Cut (p : FrameParams) (m : List Float) (w h a b end top : ℕ) : Type 0 where
  pub none : lowest (conditions (length m) w h p.ring p.window p.centroid_radius) ≡ 0
  pub end_is : end ≡ min (min b h + (p.ring + p.window + p.centroid_radius)) h
  pub top-is : top ≡ min (a - (p.ring + p.window + p.centroid_radius)) end

-- ---- the peaks in rows a up to b of a map m
module _ (p : FrameParams) (exact : Bool) (m : List Float) (w h a b end top : ℕ) (cut : Cut p m w h a b end top) where
  pub fine : Sound (length m) w h p.ring p.window p.centroid_radius
  fine = input p (length m) w h cut.none

  pub order : top ≤ end
  order = omega (arith, cut.top-is)

  pub within : end ≤ h
  within = omega (arith, cut.end_is)

  -- the part lies in the map
  pub part_end : end * w ≤ length m
  part_end = omega (arith, mul-le-mul_right w within, fine.whole, mul_comm h w)

  pub part_small : end * w ≤ 4096 * 4096
  part_small = let k : end ≤ 4096 = omega (arith, within, fine.high) in mul-le-mul k fine.wide

  pub part-order : top * w ≤ end * w
  part-order = mul-le-mul_right w order

  pub low-top : top ≤ 4096
  low-top = omega (arith, fine.high, order, within)

  abbrev Part : List Float
  Part = part w top end m order

  abbrev There : Search
  There = search_with p exact w h

  abbrev Here : Search
  Here = search_with p exact w (end - top)

  abbrev Centre : Corner → Corner
  Centre = centred p.centroid_radius m w h

  long : length Part ≡ w * (end - top)
  long = part-length-to (top * w) (end * w) m part_end ∙ part-size w top end m order ∙ mul_comm (end - top) w

  pub part-clear : Clear (conditions (length Part) w (end - top) p.ring p.window p.centroid_radius)
  part-clear =
      sound-clear (length Part) w (end - top) p.ring p.window p.centroid_radius
      (record {
        wide = fine.wide;
        high = omega (arith, fine.high, within);
        whole = long;
        ring_is = fine.ring_is;
        in_window = fine.in_window;
        in-radius = fine.in-radius;
      })

  peaks : map (down top) (peaks_in Part Here) ≡ peaks_in_rows m There a b
  peaks =
      sym (peaks-there p exact w h top end m order within fine.high)
      ∙ ap (keep (peak_in m There))
      (ap₂ (λ (c d : ℕ). block There.border (w - There.border) (There.border + c) (d - There.border))
      (cut.top-is ∙ ap (min (a - There.border)) cut.end_is) cut.end_is
      ∙ rows_inside a b h There.border There.border (w - There.border))

  pub centres-are : map (λ c. Centre (lowered top c)) (starts_in Part Here) ≡ centres_in_rows p exact m w h a b
  centres-are =
      starts-there p exact w h top end m order within fine.high Centre
      ∙ ap (λ (l : List Place). map Centre (map (start_at m There) l)) peaks

  pub ties_are : ties_in Part Here ≡ ties_in_rows p exact m w h a b
  ties_are = sum-there p exact w h top end m order within fine.high ∙ ap (sum_of (ties_at m There)) peaks

  pub rows-added : (held : ℕ) (s : Slices) (answer : Result Peaks Refusal) (s' : Slices)
      → PeaksAdded (conditions (length Part) w (end - top) p.ring p.window p.centroid_radius)
      (map (λ c. Centre (lowered top c)) (starts_in Part Here))
      (ties_in Part Here) held s answer s'
      → RowCornersAdded p exact m w h a b held s answer s'
  rows-added held s answer s' f =
      subst (λ (l : List Corner). PeaksAdded conds l (ties_in_rows p exact m w h a b) held s answer s') centres-are
      (subst (λ (n : ℕ). PeaksAdded conds (map (λ c. Centre (lowered top c)) (starts_in Part Here)) n held s answer s') ties_are
      (found-also _ conds part-clear (clear (length m) w h p.ring p.window p.centroid_radius cut.none) _ _ held s
      answer s' f))
    where
      conds : List (Bool × ℕ)
      conds = conditions (length m) w h p.ring p.window p.centroid_radius

-- ---- all rows
pub all-rows : (p : FrameParams) (exact : Bool) (m : List Float) (w h held : ℕ) (s : Slices) (answer : Result Peaks Refusal) (s' : Slices)
    → RowCornersAdded p exact m w h 0 h held s answer s' → CornersAdded p exact m w h held s answer s'
all-rows p exact m w h held s answer s' f =
    subst (λ (l : List Place). PeaksAdded (conditions (length m) w h p.ring p.window p.centroid_radius)
    (map (centred p.centroid_radius m w h) (map (start_at m (search_with p exact w h)) l))
    (sum_of (ties_at m (search_with p exact w h)) l) held s answer s')
    same f
  where
    rows : (border : ℕ) → block border (w - border) (max 0 border) (min h (h - border)) ≡ block border (w - border) border (h - border)
    rows border = ap₂ (λ (c d : ℕ). block border (w - border) c d) (omega arith) (omega arith)

    same : peaks_in_rows m (search_with p exact w h) 0 h ≡ peaks_in m (search_with p exact w h)
    same = unfold peak_places in (ap (keep (peak_in m (search_with p exact w h))) (rows (search_with p exact w h).border))
