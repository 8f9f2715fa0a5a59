use mathlib.Core.Path.{◌≡◌}
use Rattle.lists.specs.Tab.{tab}
use Rattle.lists.specs.Buffer.{front}
use Rattle.stream.specs.Internal.{pixel_byte}
use Rattle.stream.proofs.pixels.store_pixels.Given as goal

abbrev pub invariant-loop-i : goal.invariant-loop-i
invariant-loop-i l = l.pixel-items ≡ front (tab l.i (pixel_byte l.input)) l.initial.pixel-items
