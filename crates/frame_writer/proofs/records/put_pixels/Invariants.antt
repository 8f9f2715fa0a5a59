use mathlib.Core.Path.{◌≡◌}
use Rattle.lists.specs.Tab.{tab}
use Rattle.lists.specs.Buffer.{front}
use Rattle.frame_writer.specs.Internal.{record_byte}
use Rattle.frame_writer.proofs.records.put_pixels.Given as goal

abbrev pub invariant-loop-j : goal.invariant-loop-j
invariant-loop-j l = l.out ≡ front (tab l.j (record_byte l.pixels)) l.initial.out
