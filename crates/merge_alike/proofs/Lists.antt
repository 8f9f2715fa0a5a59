-- Near corners of a list lie in neighbouring cells, so that both merges leave the same of it. Assumes nothing.
use Prim.Native.Nat.{ℕ, ◌^◌, ◌≤◌}
use native.Mathlib.Nat.{le_trans}
use mathlib.Core.Path.{◌≡◌, refl, sym, ap, ◌∙◌}
use mathlib.Core.Bool.{Bool, true, false, ◌&&◌}
use mathlib.Core.List.{List, [], ◌∷◌, map}
use lib.Dec.{lit≤}
use lib.Pow.{pow_mono}
use lib.Ieee.{Float, binary32, div}
use Rattle.lists.specs.Places.{All}
use Rattle.lists.proofs.Members.{all_map, all-mapped, all-unmapped, all_both}
use Rattle.float32.specs.Value.{IsValue}
use Rattle.corner_list.specs.declared.Corner.{Corner}
use Rattle.corner_list.specs.CornerList.{x_of, y_of}
use Rattle.merge_grid.specs.declared.Grid.{Grid}
use Rattle.merge_grid.specs.Grid.{position_of, squared, adjacent_cells, joins, grid_of}
use Rattle.merge_settle.specs.Settle.{settle, merged}
use Rattle.merge.proofs.Result.{settle-all}
use Rattle.merge_naive.specs.MergeNaive.{near_by}
use Rattle.merge_alike.specs.Alike.{IsPower}
use Rattle.merge_alike.proofs.Multiples.{Sixtyfourths, Placed}
use Rattle.merge_alike.proofs.Distance.{sides-near}
use Rattle.merge_alike.proofs.Cell.{one, cells-adjacent}
use Rattle.merge_alike.proofs.Least.{AtMost, least-of}

-- ---- two tests that agree on the corners of a list leave the same of it
module _ (P : Corner → Type 0) (f g : Corner → Corner → Bool) (same : (c o : Corner) → P c → P o → f c o ≡ g c o) where
  settle-same : (kept : List Corner) (c : Corner) → P c → All P kept → settle f kept c ≡ settle g kept c
  settle-same [] c p h = refl
  settle-same (o ∷ kept) c p h = rw (same c o p h.0, settle-same kept c p h.1)

  merged-same : (kept cs : List Corner) → All P kept → All P cs → merged f kept cs ≡ merged g kept cs
  merged-same kept [] h k = refl
  merged-same kept (c ∷ cs) h k =
      ap (λ (l : List Corner). merged f l cs) (settle-same kept c k.0 h)
      ∙ merged-same (settle g kept c) cs (settle-all P g kept c k.0 h) k.1

-- ---- two corners of a list whose least coordinates are m and n 64ths
record Above (m n : ℕ) (c : Corner) : Type 0 where
  placed : Placed c
  column : AtMost m c.x
  row : AtMost n c.y

module _ (r : Float) (power : IsPower r) where
  radius-few : 2 ^ power.exponent ≤ 262144
  radius-few = le_trans (pow_mono power.at_most) (lit≤ tt)

  near-joins : (g : Grid) → g.inverse ≡ div binary32 one r → g.square ≡ squared r → (m n : ℕ) → IsValue g.left m 0 64
      → IsValue g.top n 0 64
      → (c o : Corner) → Above m n c → Above m n o → near_by (squared r) c o ≡ joins g c o
  unfolding adjacent_cells
  near-joins g inverse square m n left top c o p q = rw square (pick (near_by (squared r) c o) refl)
    where
      pick : (b : Bool) → near_by (squared r) c o ≡ b → b ≡ (b && adjacent_cells g (position_of c) (position_of o))
      pick false e = refl
      pick true e =
          let cx = p.placed.column in
          let ox = q.placed.column in
          let cy = p.placed.row in
          let oy = q.placed.row in
          let d = sides-near r (2 ^ power.exponent) radius-few power.value (position_of c) (position_of o) cx ox cy oy e in
          let a = cells-adjacent r power c.x o.x g.left cx ox m left (p.column _ cx.value) (q.column _ ox.value) d.0 in
          let b = cells-adjacent r power c.y o.y g.top cy oy n top (p.row _ cy.value) (q.row _ oy.value) d.1 in
          sym (rw inverse (rw (a, b)))

  -- ---- the whole list
  all_above : (m n : ℕ) (cs : List Corner) → All Placed cs → All (AtMost m) (map x_of cs) → All (AtMost n) (map y_of cs)
      → All (Above m n) cs
  all_above m n cs h a b =
      all_map _ _ (λ c t. record { placed = t.0; column = t.1.0; row = t.1.1 }) cs
      (all_both _ _ cs h (all_both _ _ cs (all-unmapped (AtMost m) x_of cs a) (all-unmapped (AtMost n) y_of cs b)))

  pub merged-alike : (cs : List Corner) → All Placed cs → merged (near_by (squared r)) [] cs ≡ merged (joins (grid_of r cs)) [] cs
  unfolding grid_of
  merged-alike [] h = refl
  merged-alike (c ∷ cs) h =
      let x = least-of c.x (map x_of cs)
      (all-mapped Sixtyfourths x_of (c ∷ cs) (all_map Placed (λ c. Sixtyfourths c.x) (λ c t. t.column) (c ∷ cs) h)) in
      let y = least-of c.y (map y_of cs)
      (all-mapped Sixtyfourths y_of (c ∷ cs) (all_map Placed (λ c. Sixtyfourths c.y) (λ c t. t.row) (c ∷ cs) h)) in
      merged-same (Above x.count y.count) (near_by (squared r)) (joins (grid_of r (c ∷ cs)))
      (near-joins (grid_of r (c ∷ cs)) refl refl x.count y.count x.value y.value) [] (c ∷ cs) tt
      (all_above x.count y.count (c ∷ cs) h x.each y.each)
