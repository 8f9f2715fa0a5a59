-- `retention::list::letter_at` meets its contract: a record without fault is whole. Assumes nothing.
use native.Mathlib.Omega.{arith}
use Rattle.lists.proofs.Judged.{judged-ok}
use Rattle.retention.proofs.Records.{Whole, whole}
use Rattle.retention.proofs.list.letter_at.Goals as goal
use Rattle.retention.proofs.list.letter_at.Goals.{In_ok-record_fault}

-- the record has no fault
is-whole : (c : In_ok-record_fault) → Whole c.args.input.now c.args.at
is-whole c = whole _ _ (judged-ok _ _ _ c.in_ok-record_fault.ensures).0

pub start_at-start-requires : goal.start_at-start-requires
start_at-start-requires c = (is-whole (goal.at.start_at-start-requires c).In_ok-record_fault).long

pub bounds-input-at : goal.bounds-input-at
bounds-input-at c = omega (arith, (is-whole (goal.at.bounds-input-at c).In_ok-record_fault).long)

pub state-requires : goal.state-requires
state-requires c = rw c.start_at-start.ensures (is-whole (goal.at.state-requires c).In_ok-record_fault).early
