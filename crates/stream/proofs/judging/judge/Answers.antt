-- `stream::judging::judge` meets its contract. The invariant: where the reader stands. The measure is what is left of the stream. Assumes
-- nothing.
use Prim.Native.Nat.{◌+◌, ◌≤◌}
use native.Mathlib.Omega.{arith}
use lib.ListN.{length}
use mathlib.Core.Path.{refl, sym, ◌∙◌}
use Rattle.lists.proofs.Judged.{number-judged, checked-err, checked-ok}
use Rattle.stream.specs.Stream.{body_length}
use Rattle.stream.proofs.Order.{at-stage-start, at-stage-end, at-stage-faulty, at-stage-long, at-stage-sides}
use Rattle.stream.proofs.Order.{at-stage-next}
use Rattle.stream.proofs.Faults.{record-known}
use Rattle.stream.proofs.judging.judge.Goals as goal
use Rattle.stream.proofs.judging.judge.Goals.{Else-is_err}

pub loop-kind-init : goal.loop-kind-init
loop-kind-init c = at-stage-start c.args.input.now

pub returns-then-is_err : goal.returns-then-is_err
returns-then-is_err c =
    at-stage-faulty c.loop-kind.invariant c.loop-kind-test.true _ _ c.due_after-kind.ensures refl _
    (number-judged _ _ c.record_fault-fault.ensures (record-known _ _ _))
    (checked-err _ _ c.record_fault-fault.ensures (sym c.is_err.ensures.value ∙ c.if-is_err.true))

-- the record without fault ends in the stream
long : (c : Else-is_err)
    → c.loop-kind.at + 1 + body_length c.due_after-kind.result
    ≤ length c.args.input.now
long c =
    at-stage-long c.loop-kind.invariant c.loop-kind-test.true _ _ c.due_after-kind.ensures
    refl (checked-ok _ _ c.record_fault-fault.ensures (sym c.is_err.ensures.value ∙ c.if-is_err.false))

pub overflow_add-at : goal.overflow_add-at
overflow_add-at c = omega (arith, long c)

pub overflow_add-at-in-loop-kind : goal.overflow_add-at-in-loop-kind
overflow_add-at-in-loop-kind c = omega (arith, long (goal.at.overflow_add-at-in-loop-kind c).Else-is_err, c.body_length.ensures)

pub left_after-left-requires : goal.left_after-left-requires
left_after-left-requires c =
    at-stage-sides c.loop-kind.invariant c.loop-kind-test.true _ _ c.due_after-kind.ensures
    refl (checked-ok _ _ c.record_fault-fault.ensures (sym c.is_err.ensures.value ∙ c.if-is_err.false))

pub loop-kind-smaller : goal.loop-kind-smaller
loop-kind-smaller c = omega (arith, long (goal.at.loop-kind-smaller c).Else-is_err, c.body_length.ensures)

pub loop-kind-preserved : goal.loop-kind-preserved
loop-kind-preserved c =
    at-stage-next c.loop-kind.invariant c.loop-kind-test.true _ _ c.due_after-kind.ensures
    refl (checked-ok _ _ c.record_fault-fault.ensures (sym c.is_err.ensures.value ∙ c.if-is_err.false))
    c.body_length.result c.left_after-left.result c.body_length.ensures c.left_after-left.ensures

pub returns : goal.returns
returns c = at-stage-end c.loop-kind.invariant c.loop-kind-test.false
