-- A buffer of corners, cleared after the corners that it holds (RULES 1.8).
use Rattle.std.specs.Prelude.{ℕ}
use Rattle.lists.specs.Buffer.{wiped_from}
use Rattle.float32.specs.Float32 as float32
use Rattle.corner_list.specs.CornerList.{Slices, slices}

-- a buffer of corners, zero from place n on
abbrev pub cleared_from : ℕ → Slices → Slices
cleared_from n b =
    slices (wiped_from n float32.zero b.xs) (wiped_from n float32.zero b.ys)
    (wiped_from n float32.zero b.strengths) (wiped_from n 0 b.neighbours)
