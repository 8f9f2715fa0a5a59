-- `retention::list::list_holdings` meets its contract: the time's refusal, or the lines. Assumes nothing.
use mathlib.Core.Path.{◌≡◌, sym}
use lib.Seq.{length-take-le}
use Rattle.lists.proofs.Judged.{judged-ok, refused-above, number-judged}
use Rattle.retention.specs.Stream.{time_fault}
use Rattle.retention.proofs.Records.{timed, time-known}
use Rattle.retention.proofs.Texts.{time-refused, lines-written}
use Rattle.retention.proofs.list.list_holdings.Goals as goal
use Rattle.retention.proofs.list.list_holdings.Goals.{In-Ok}

pub returns-in-Err : goal.returns-in-Err
returns-in-Err c =
    time-refused _ _ _ _ _ (number-judged _ _ c.in-Err.ensures (time-known _)) (refused-above _) c.put_refusal.ensures

-- the time has no fault
none : (c : In-Ok) → time_fault c.args.input.now ≡ 0
none c = (judged-ok _ _ _ c.in-Ok.ensures).0

pub slice_bounds-number_of-end : goal.slice_bounds-number_of-end
slice_bounds-number_of-end c =
    sym (length-take-le 8 c.args.input.now (timed c.args.input.now (none (goal.at.slice_bounds-number_of-end c).In-Ok)).long)

pub number_of-requires : goal.number_of-requires
number_of-requires c =
    length-take-le 8 c.args.input.now (timed c.args.input.now (none (goal.at.number_of-requires c).In-Ok)).long

pub returns-in-Ok : goal.returns-in-Ok
returns-in-Ok c = lines-written _ _ _ _ (none (goal.at.returns-in-Ok c).In-Ok) c.list_records.ensures
