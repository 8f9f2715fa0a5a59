-- The threshold of the choice by exact values (RULES 34.3): half a fifth above the last fifth that is not above it.
use Rattle.std.specs.Prelude.{ℕ, ◌+◌, ◌*◌, ◌/◌, false, cond, pos, Float}
use Rattle.std.specs.Float.{fin, binary32}
use Rattle.std.specs.Float.Ieee.{le, div}
use Rattle.std.specs.Float.Ieee.Positive.{num, den}
use Rattle.float32.specs.Float32.{float_of}

-- 2,041: no response is above it, since an exact value is at most 10,200 fifths (RULES 28.3)
abbrev pub above_all : Float
above_all = fin false 2041 (pos 0)

-- the fifths in a lifted threshold t = num t / den t: 5 t cut off, and 10,205 from 2,041 on
unfoldable pub fifths_under : Float → ℕ
fifths_under t = cond (le above_all t) 10205 (5 * num t / den t)

-- n fifths and half a fifth, in one rounded division
unfoldable pub between_fifths : Float → Float
unfolding fifths_under
between_fifths t = div binary32 (float_of (2 * fifths_under t + 1)) (fin false 5 (pos 1))
