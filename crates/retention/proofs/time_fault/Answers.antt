-- `retention::time_fault` meets its contract, return by return. Assumes nothing.
use Rattle.retention.proofs.Records.{time-cut, time-late, time-none}
use Rattle.retention.proofs.time_fault.Goals as goal

pub returns-then-input-lt8 : goal.returns-then-input-lt8
returns-then-input-lt8 c = rw (time-cut _ c.if-input-lt8.true)

pub returns-then-number_of-gt-LATEST : goal.returns-then-number_of-gt-LATEST
returns-then-number_of-gt-LATEST c = rw (time-late _ c.if-input-lt8.false (rw c.number_of.ensures at c.if-number_of-gt-LATEST.true))

pub returns : goal.returns
returns c = rw (time-none _ (record { long = c.if-input-lt8.false; early = rw c.number_of.ensures at c.if-number_of-gt-LATEST.false }))
