-- `retention::item::refusal` meets its contract, return by return. Assumes nothing.
use Rattle.std.proofs.Common.{rules}
use Rattle.retention.specs.Retention.{refusal_of}
use Rattle.retention.proofs.item.refusal.Goals as goal

pub returns-then-not-is_known : goal.returns-then-not-is_known
unfolding refusal_of
returns-then-not-is_known c = search rules

pub returns-then-start-gt-LATEST : goal.returns-then-start-gt-LATEST
unfolding refusal_of
returns-then-start-gt-LATEST c = search rules

pub returns-then-time-gt-LATEST : goal.returns-then-time-gt-LATEST
unfolding refusal_of
returns-then-time-gt-LATEST c = search rules

pub returns : goal.returns
unfolding refusal_of
returns c = search rules
