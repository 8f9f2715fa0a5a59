-- Merging is the published one: corners that are not refused have finite coordinates, and the loop over them merges. Assumes nothing.
use mathlib.Core.Path.{◌≡◌, refl, ◌∙◌}
use mathlib.Core.Bool.{Bool, true, false, cond, ◌&&◌}
use mathlib.Core.List.{List, [], ◌∷◌, map}
use Prim.Native.Nat.{ℕ, ◌<◌}
use native.Mathlib.Omega.{arith}
use lib.Dec.{eqb-suc-zero}
use lib.ListN.{length}
use lib.Ieee.{Float, inf}
use lib.Ieee.Scale.{finite}
use Rattle.lists.specs.Places.{All}
use Rattle.lists.proofs.Tests.{from-T}
use Rattle.lists.proofs.Members.{all_map, all-mapped}
use Rattle.corner_list.specs.declared.Corner.{Corner}
use Rattle.corner_list.specs.CornerList.{x_of, y_of, is_inside, corners_of}
use Rattle.corner_list.proofs.Inside.{inside-parts}
use Rattle.corner_list.proofs.Corners.{corners-length}
use Rattle.merge_radius.specs.MergeRadius.{is_off, is_sized}
use Rattle.merge_grid.specs.Grid.{joins, least_from, grid_of}
use Rattle.merge_settle.specs.Settle.{merged}
use Rattle.merge.specs.Merge.{result_of}
use Rattle.merge_refusal.proofs.Judged.{judged-allowed}
use Rattle.published.specs.MergeRs.{greatest_from, GridRs, grid_rs, index_rs, no_hit, merge_rs, MergeAsPublished}
use Rattle.published.proofs.Extremes.{Plain, extremes}
use Rattle.published.proofs.Cells.{coordinate, cells-as-published}
use Rattle.published.proofs.Grid.{Holds}
use Rattle.published.proofs.Scan.{Placed}
use Rattle.published.proofs.Turns.{loop-is}

-- ---- the ends of the coordinates are finite
ends : (co : Corner → Float) (c : Corner) (l : List Corner) → All (λ c. Plain (co c)) (c ∷ l)
    → (finite (least_from (inf false) (map co (c ∷ l))) ≡ true) × (finite (greatest_from (inf true) (map co (c ∷ l))) ≡ true)
ends co c l a =
    let x = extremes (co c) (map co l) (all-mapped Plain co (c ∷ l) a) in
    (from-T _ x.least.bounded, from-T _ x.greatest.bounded)

square : (radius : Float) (cs : List Corner) → (grid_rs radius cs).r2 ≡ (grid_of radius cs).square
unfolding grid_rs grid_of
square radius cs = refl

nothing : (ix : Corner → ℕ) (P : Corner → Type 0) → Holds ix P [] (λ i. [])
nothing ix P = record {
  good = λ i l. absurd (let no : ⊥ = omega arith in no);
  listed = λ i l. absurd (let no : ⊥ = omega arith in no);
  only = λ i j k. absurd k;
}

-- ---- a list of corners, and a radius that is on
module _ (radius : Float) (c : Corner) (l : List Corner) (sized : is_sized radius ≡ true)
    (inside : All (λ c. is_inside c ≡ true) (c ∷ l)) where
  abbrev cs : List Corner
  cs = c ∷ l

  abbrev g : GridRs
  g = grid_rs radius cs

  all-finite : (finite g.min-x && finite g.min_y && finite g.max-x && finite g.max_y) ≡ true
  unfolding grid_rs
  all-finite =
      let xs = ends x_of c l (all_map _ _ (λ o i. (coordinate o.x (inside-parts o i).0).plain) cs inside) in
      let ys = ends y_of c l (all_map _ _ (λ o i. (coordinate o.y (inside-parts o i).1).plain) cs inside) in
      rw (xs.0, xs.1, ys.0, ys.1)

  merge_on : length cs < no_hit → is_off radius ≡ false → merge_rs cs radius ≡ merged (joins (grid_of radius cs)) [] cs
  unfolding merge_rs is_off
  merge_on few off =
      rw (eqb-suc-zero (length l), off, all-finite)
      (loop-is g (grid_of radius cs) (square radius cs) (record { out = []; grid = λ i. [] }) cs
      (nothing (index_rs g) (Placed g (grid_of radius cs)))
      (cells-as-published radius cs sized inside) (omega arith))

merge_none : (radius : Float) → merge_rs [] radius ≡ []
unfolding merge_rs
merge_none radius = refl

merge-off : (radius : Float) (c : Corner) (l : List Corner) → is_off radius ≡ true → merge_rs (c ∷ l) radius ≡ c ∷ l
unfolding merge_rs is_off
merge-off radius c l e = rw (eqb-suc-zero (length l), e)

merge-whole : (radius : Float) (cs : List Corner) → length cs < no_hit
    → (is_off radius ≡ false → (is_sized radius ≡ true) × All (λ c. is_inside c ≡ true) cs)
    → merge_rs cs radius ≡ result_of radius cs
unfolding result_of
merge-whole radius [] few h = merge_none radius ∙ same (is_off radius)
  where
    same : (b : Bool) → [] ≡ cond b [] (merged (joins (grid_of radius [])) [] [])
    same true = refl
    same false = refl
merge-whole radius (c ∷ l) few h = go (is_off radius) refl
  where
    go : (b : Bool) → is_off radius ≡ b → merge_rs (c ∷ l) radius ≡ cond b (c ∷ l) (merged (joins (grid_of radius (c ∷ l))) [] (c ∷ l))
    go true e = merge-off radius c l e
    go false e = let k = h e in merge_on radius c l k.0 k.1 few e

pub merge-as-published : MergeAsPublished
merge-as-published radius places count b e few =
    merge-whole radius (corners_of b count) (rw (corners-length b count) few) (judged-allowed radius places count b e)
