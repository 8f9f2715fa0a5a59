-- `merge_settle::search::lowest_from` meets its contract: `low` is the lowest of the slots passed, up to an empty one or the end. Assumes
-- nothing.
use Rattle.std.proofs.Common.{◌+◌, ◌≡◌, ◌∙◌, sym, add-zero, add_assoc, arith}
use lib.ListN.{get_or}
use Rattle.merge_settle.specs.Internal.{slots_of}
use Rattle.merge_settle.proofs.First.{looking-none, looking-read, looking-empty, looking-end}
use Rattle.merge_settle.proofs.Slots.{slot-read, slots-long}
use Rattle.merge_settle.proofs.search.lowest_from.Goals as goal
use Rattle.merge_settle.proofs.search.lowest_from.Goals.{After-to_bits-i}

pub loop-slot-init : goal.loop-slot-init
loop-slot-init c = (rw add-zero (looking-none _ _ _ _), omega arith)

-- the number that was read is what its slot holds
held : (c : After-to_bits-i)
    → get_or (slots_of c.args.table.now) (c.args.home + c.loop-slot.slot-index) 0 ≡ c.to_bits-i.result
held c = slot-read c.args.table.now c.args.home _ _ c.loop-slot-test.true c.to_bits-i.ensures

pub returns-then-i-eq-EMPTY : goal.returns-then-i-eq-EMPTY
returns-then-i-eq-EMPTY c =
    looking-empty _ _ _ _ _ _ c.loop-slot.invariant.0
    (held (goal.at.returns-then-i-eq-EMPTY c).After-to_bits-i ∙ c.if-i-eq-EMPTY.true) (omega (arith, slots-long c.args.table.now))
    (omega arith)

pub loop-slot-preserved : goal.loop-slot-preserved
loop-slot-preserved c = (
  rw (sym (add_assoc c.args.home c.loop-slot.slot-index 1))
      (looking-read _ _ _ _ _ _ c.loop-slot.invariant.0 _ (held (goal.at.loop-slot-preserved c).After-to_bits-i) _ c.lower_of-low.ensures),
  omega arith,
)

pub returns : goal.returns
returns c = rw c.unwrap_or.ensures (looking-end _ _ _ _ _ _ c.loop-slot.invariant.0 _ c.first_joined.ensures)
