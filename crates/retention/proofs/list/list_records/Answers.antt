-- `retention::list::list_records` meets its contract. The invariant: the lines of the records passed are written. Assumes nothing.
use Prim.Native.Nat.{◌+◌, ◌<◌, ◌≤◌, min}
use native.Mathlib.Omega.{arith}
use lib.ListN.{length}
use Rattle.lists.proofs.Judged.{judged-ok, refused-above, number-judged}
use Rattle.retention.specs.Stream.{longest_input}
use Rattle.retention.proofs.Records.{fault-known}
use Rattle.retention.proofs.Texts.{Listed, listed-all, listed-ample, listed-refused, listed_next}
use Rattle.retention.proofs.list.list_records.Goals as goal
use Rattle.retention.proofs.list.list_records.Goals.{In-loop-at, After-put_letter-end}

-- a record is left, and the buffer has a place for its line
some : (c : In-loop-at) → c.loop-at.at < min (length c.args.input.now) longest_input
some c = rw c.min-stop.ensures at c.loop-at-test.true

ample : (c : In-loop-at) → c.loop-at.end + 11 ≤ length c.loop-at.out
ample c = listed-ample _ _ _ _ _ c.loop-at.invariant (some c) c.requires.1

pub returns-in-Err : goal.returns-in-Err
returns-in-Err c =
    listed-refused _ _ _ _ _ c.loop-at.invariant (some (goal.at.returns-in-Err c).In-loop-at) c.requires.1 _ _ _
    (number-judged _ _ c.in-Err.ensures (fault-known _ _)) (refused-above _) c.put_refusal.ensures

-- the record's line is written
next : (c : After-put_letter-end)
    → Listed c.args.input.now c.args.out.now (c.loop-at.at + 9) c.put_letter-end.result c.put_letter-end.new.out
next c =
    let letter = judged-ok _ _ _ c.in-Ok.ensures in
    listed_next _ _ _ _ _ c.loop-at.invariant (rw c.min-stop.ensures at c.loop-at-test.true) c.requires.1 _ _ _
    letter.0 letter.1 c.put_letter-end.ensures

pub loop-at-preserved : goal.loop-at-preserved
loop-at-preserved c = next (goal.at.loop-at-preserved c).After-put_letter-end

-- behind the last
pub returns-in-Ok : goal.returns-in-Ok
returns-in-Ok c =
    listed-all _ _ _ _ _ (next (goal.at.returns-in-Ok c).After-put_letter-end)
    (omega (arith, c.min-stop.ensures))

pub returns : goal.returns
returns c = listed-all _ _ _ _ _ c.loop-at.invariant (rw c.min-stop.ensures at c.loop-at-test.false)
