-- `frame_writer::records::record_byte` meets its contract, return by return. Assumes nothing.
use Rattle.std.proofs.Common.{rules, arith}
use Rattle.std.proofs.lemmas.Grind.{common_steps}
use Rattle.frame_writer.specs.Internal.{record_byte}
use Rattle.frame_writer.proofs.records.record_byte.Goals as goal

pub returns-then-column-eq0 : goal.returns-then-column-eq0
unfolding record_byte
returns-then-column-eq0 c = search rules

pub returns : goal.returns
unfolding record_byte
returns c = grind (arith, common_steps)
