-- `retouch::cells::redo_touched` meets its contract. The loop redoes the map by one place after the other. Assumes nothing.
use mathlib.Core.Path.{sym, ◌∙◌}
use native.Mathlib.Omega.{arith}
use borrow.Author.Rules.{rules}
use Rattle.ring.proofs.Table.{ring_of-is}
use Rattle.ring.proofs.Places.{radius-pos}
use Rattle.retouch.proofs.Passing.{passed_none, passed_length, passed-next, passed-all, ready-map}
use Rattle.retouch.proofs.cells.redo_touched.Goals as goal

pub loop-k-init : goal.loop-k-init
loop-k-init c = passed_none _ _ _ _ (ring_of-is _) _ _ c.requires.cells

pub sample_place-column-requires : goal.sample_place-column-requires
sample_place-column-requires c = (search rules, radius-pos _ (ring_of-is _))

pub redo-n-requires : goal.redo-n-requires
redo-n-requires c =
    ready-map _ _ _ _ _ _ _ c.requires (passed_length _ _ _ _ (ring_of-is _) _ _ _ _ _ c.loop-k.invariant)

pub overflow_add-n : goal.overflow_add-n
overflow_add-n c =
    omega (arith, c.loop-k.invariant.few, c.redo-n.ensures.value.1)

pub loop-k-preserved : goal.loop-k-preserved
loop-k-preserved c =
    passed-next _ _ _ _ (ring_of-is _) _ _ _ _ _ c.loop-k.invariant c.loop-k-test.true _ _ _
    c.sample_place-column.ensures c.redo-n.ensures.map_after c.redo-n.ensures.value.0 c.redo-n.ensures.value.1

pub shape_of-map : goal.shape_of-map
shape_of-map c = passed_length _ _ _ _ (ring_of-is _) _ _ _ _ _ c.loop-k.invariant ∙ sym c.requires.cells

pub returns : goal.returns
returns c =
    let all = passed-all _ _ _ _ (ring_of-is _) _ _ _ _ _ c.loop-k.invariant c.loop-k-test.false in
    record { map_after = all.0; value = all.1 }
