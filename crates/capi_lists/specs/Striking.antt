-- What `zakdomp_strike_corner` promises, by the promise of `strike_corner`.
use Rattle.std.specs.Prelude.{ℕ}
use Rattle.lists.specs.Refusals.{judged}
use Rattle.corner_list.specs.CornerList.{Slices}
use Rattle.corner_strike.specs.Editions.{Edition}
use Rattle.corner_strike.specs.Striking.{struck_by, Strikes}

-- r is the number of the answer; the buffer, and the count and the change number behind their pointers, are as promised
pub record CornerStruck (b : Slices) (e : Edition) (place shown r : ℕ) (b' : Slices) (e' : Edition) : Type 0 where
  pub answer : Strikes b e place shown (judged r (struck_by e)) b' e'
