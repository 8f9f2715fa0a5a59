-- `stream::kinds::kind_fault` meets its contract, arm by arm. Assumes nothing.
use native.Mathlib.Omega.{arith}
use borrow.Author.Tests.{le-leb, lt-leb, eq-eqb, ne_eqb}
use Rattle.stream.specs.Internal.{kind_fault}
use Rattle.stream.proofs.kinds.kind_fault.Goals as goal

pub returns-then-kind-due : goal.returns-then-kind-due
unfolding kind_fault
returns-then-kind-due c =
    rw (
      le-leb 1 _ c.in-1-to-4.if-kind-lt1-own.false,
      le-leb c.args.kind 4 (omega arith),
      eq-eqb _ _ c.if-kind-due.true,
    )

pub returns-else-kind-due : goal.returns-else-kind-due
unfolding kind_fault
returns-else-kind-due c =
    rw (
      le-leb 1 _ c.in-1-to-4.if-kind-lt1-own.false,
      le-leb c.args.kind 4 (omega arith),
      ne_eqb _ _ c.if-kind-due.false,
    )

pub returns-in_default : goal.returns-in_default
unfolding kind_fault
returns-in_default c = rw (lt-leb 1 _ c.in_default.if-kind-lt1-own.true)

pub returns-in_default-2 : goal.returns-in_default-2
unfolding kind_fault
returns-in_default-2 c = rw (le-leb 1 _ c.in_default.if-kind-lt1-own.false, lt-leb c.args.kind 4 (omega arith))
