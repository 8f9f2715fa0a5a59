-- `retention::record_fault` meets its contract, return by return. Assumes nothing.
use native.Mathlib.Omega.{arith}
use mathlib.Core.Path.{◌≡◌, sym, ◌∙◌}
use mathlib.Core.Bool.{true}
use Rattle.retention.specs.Retention.{known}
use Rattle.retention.specs.Stream.{kind_at}
use Rattle.retention.proofs.Records.{fault-end, fault-kind, fault-cut, fault-late, fault-none}
use borrow.Author.Tests.{not-true, not-false}
use Rattle.retention.proofs.record_fault.Goals as goal
use Rattle.retention.proofs.record_fault.Goals.{Else-not-is_known}

pub returns-then-input-at : goal.returns-then-input-at
returns-then-input-at c = rw (fault-end _ _ c.if-input-at.true)

pub returns-then-not-is_known : goal.returns-then-not-is_known
returns-then-not-is_known c = rw (fault-kind _ _ c.if-input-at.false (sym c.is_known.ensures ∙ not-true _ c.if-not-is_known.true-raw))

-- the kind is known
kind-is : (c : Else-not-is_known) → known (kind_at c.args.input.now c.args.at) ≡ true
kind-is c = sym c.is_known.ensures ∙ not-false _ c.if-not-is_known.false-raw

pub returns-then-input-at-lt9 : goal.returns-then-input-at-lt9
returns-then-input-at-lt9 c =
    rw (fault-cut _ _ c.if-input-at.false (kind-is (goal.at.returns-then-input-at-lt9 c).Else-not-is_known) (omega arith))

pub returns-then-start_at-gt-LATEST : goal.returns-then-start_at-gt-LATEST
returns-then-start_at-gt-LATEST c =
    rw (fault-late _ _ c.if-input-at.false (kind-is (goal.at.returns-then-start_at-gt-LATEST c).Else-not-is_known) (omega arith)
    (rw c.start_at.ensures at c.if-start_at-gt-LATEST.true))

pub returns : goal.returns
returns c =
    rw (fault-none c.args.input.now c.args.at (record {
      long = omega arith;
      kind-is = kind-is (goal.at.returns c).Else-not-is_known;
      early = rw c.start_at.ensures at c.if-start_at-gt-LATEST.false;
    }))
