-- `merge_settle::index::list_place` meets its contract: stored in its slot, or not where the table ends before it or the place is too
-- large. Assumes nothing.
use Rattle.std.proofs.Common.{arith}
use Rattle.merge_settle.proofs.Slots.{home-in, lists-none, lists-past, lists-stored}
use Rattle.merge_settle.proofs.index.list_place.Goals as goal

pub slot_for-requires : goal.slot_for-requires
slot_for-requires c = home-in _ _ _ _ c.requires c.home_at-home.ensures

pub returns-in-Some : goal.returns-in-Some
returns-in-Some c =
    lists-stored c.args.g c.args.p c.args.table.now _ _ c.home_at-home.ensures _ c.in-Some.ensures.slot c.in-Some.ensures.inside
    c.if-place.true _ c.from_bits.ensures

pub returns-in_default : goal.returns-in_default
returns-in_default c =
    lists-past c.args.g c.args.p c.args.table.now _ _ c.home_at-home.ensures _ c.in_default.ensures.slot (omega arith)

pub returns-else-place : goal.returns-else-place
returns-else-place c = lists-none _ _ _ c.if-place.false
