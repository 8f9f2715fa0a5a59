-- `retouch::cells::redo` meets its contract: no cell, or the one that the place tells. Assumes nothing.
use mathlib.Core.Path.{◌≡◌, sym, ◌∙◌}
use mathlib.Core.Bool.{true}
use Prim.Native.Nat.{ℕ, ◌+◌, ◌*◌, ◌-◌, ◌<◌, ◌≤◌}
use native.Mathlib.Omega.{arith}
use borrow.Author.Tests.{not-true, not-false}
use lib.ListN.{length}
use Rattle.lists.specs.Limits.{largest_side, largest_map, largest_ring}
use Rattle.lists.specs.Places.{Place}
use Rattle.lists.proofs.Tab.{part_length}
use Rattle.ring.proofs.Places.{ring-fits, ring-small}
use Rattle.response.proofs.Indices.{area-le}
use Rattle.retouch.specs.Internal.{fits}
use Rattle.retouch.proofs.OneCell.{alone-across, alone-down, from_place, in_cells, cell-redone}
use Rattle.retouch.proofs.cells.redo.Goals as goal
use Rattle.retouch.proofs.cells.redo.Goals.{Else-not-is_fit-2, Start}

-- ---- what is known where both sides fit

abbrev pixel : Else-not-is_fit-2 → Place
pixel c = record { x = c.args.x; y = c.args.y }

small : (a : Start) → (a.args.ring ≤ largest_ring) × (a.args.x < largest_side) × (a.args.y < largest_side)
small a = (
  ring-small _ (ring-fits _ a.requires.known),
  omega (arith, a.requires.column, a.requires.image.narrow),
  omega (arith, a.requires.row, a.requires.image.low),
)

across : (c : Else-not-is_fit-2) → fits c.args.w c.args.ring c.args.x c.args.column ≡ true
across c = sym c.is_fit.ensures ∙ not-false _ c.if-not-is_fit.false-raw

down : (c : Else-not-is_fit-2) → fits c.args.h c.args.ring c.args.y c.args.row ≡ true
down c = sym c.is_fit-2.ensures ∙ not-false _ c.if-not-is_fit-2.false-raw

abbrev place : Else-not-is_fit-2 → ℕ × ℕ
place c = (c.args.column, c.args.row)

reached : (c : Else-not-is_fit-2) → (c.args.column ≤ c.args.x) × (c.args.row ≤ c.args.y)
reached c = from_place _ _ _ _ (pixel c) _ c.requires (place c) (across c) (down c)

-- the cell's place in the map
abbrev at : Else-not-is_fit-2 → ℕ
at c = (c.args.y - c.args.row + c.args.ring) * c.args.w + (c.args.x - c.args.column + c.args.ring)

found : (c : Else-not-is_fit-2) → at c < length c.args.map.now
found c = in_cells _ _ _ _ (pixel c) _ c.requires (place c) (across c) (down c)

near : (c : Else-not-is_fit-2) → at c < largest_map
near c = omega (arith, found c, c.requires.cells, area-le _ _ c.requires.image.narrow c.requires.image.low)

pub is_fit-requires : goal.is_fit-requires
is_fit-requires c = let s = small (goal.at.is_fit-requires c).Start in (s.0, s.1)

pub returns-then-not-is_fit : goal.returns-then-not-is_fit
returns-then-not-is_fit c =
    let none = alone-across _ _ _ _ _ _ c.requires (c.args.column, c.args.row)
    (sym c.is_fit.ensures ∙ not-true _ c.if-not-is_fit.true-raw) in
    record { map_after = none.0; value = none.1 }

pub is_fit-requires-2 : goal.is_fit-requires-2
is_fit-requires-2 c = let s = small (goal.at.is_fit-requires-2 c).Start in (s.0, s.2)

pub returns-then-not-is_fit-2 : goal.returns-then-not-is_fit-2
returns-then-not-is_fit-2 c =
    let none = alone-down _ _ _ _ _ _ c.requires (c.args.column, c.args.row)
    (sym c.is_fit-2.ensures ∙ not-true _ c.if-not-is_fit-2.true-raw) in
    record { map_after = none.0; value = none.1 }

pub overflow_sub-i : goal.overflow_sub-i
overflow_sub-i c = (reached (goal.at.overflow_sub-i c).Else-not-is_fit-2).0

pub overflow_sub-j : goal.overflow_sub-j
overflow_sub-j c = (reached (goal.at.overflow_sub-j c).Else-not-is_fit-2).1

pub overflow_mul-a : goal.overflow_mul-a
overflow_mul-a c = omega (arith, near (goal.at.overflow_mul-a c).Else-not-is_fit-2)

pub overflow_add-a : goal.overflow_add-a
overflow_add-a c = omega (arith, near (goal.at.overflow_add-a c).Else-not-is_fit-2)

pub overflow_add-e : goal.overflow_add-e
overflow_add-e c = omega (arith, near (goal.at.overflow_add-e c).Else-not-is_fit-2)

pub offset_bounds-map-a : goal.offset_bounds-map-a
offset_bounds-map-a c = omega (arith, near (goal.at.offset_bounds-map-a c).Else-not-is_fit-2)

pub slice_bounds-chess_response_u8_patch-end : goal.slice_bounds-chess_response_u8_patch-end
slice_bounds-chess_response_u8_patch-end c = omega (arith, found (goal.at.slice_bounds-chess_response_u8_patch-end c).Else-not-is_fit-2)

pub returns : goal.returns
returns c =
    let p = (goal.at.returns c).Else-not-is_fit-2 in
    let one =
    cell-redone _ _ _ _ (pixel p) _ c.requires (place p) (across p) (down p) _ _ _
    (part_length (at p) 1 _ (omega (arith, found p))) c.chess_response_u8_patch.ensures in
    record { map_after = one.0; value = one.1 }
