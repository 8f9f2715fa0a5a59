-- A call of `find_peaks` by computed values, on a map m of w by h cells, that added corners to its buffer, with its
-- promise word for word.
use Rattle.std.specs.Prelude.{ℕ, List, length, Float, Ok}
use Rattle.corner_list.specs.CornerList.{Slices}
use Rattle.detect.specs.declared.Search.{Search}
use Rattle.detect.specs.Detect.{search_of, starts_in, ties_in, conditions, PeaksAdded}

pub record PeakCall (m : List Float) (w h : ℕ) : Type 0 where
  -- the parameters; `radius` is the centroid's. Ring, window and radius determine the border
  pub ring : ℕ
  pub threshold : Float
  pub window : ℕ
  pub least_neighbours : ℕ
  pub radius : ℕ
  -- the buffer before and after, how many corners it held, how many were added, and the ties of their peaks
  pub before : Slices
  pub after : Slices
  pub held : ℕ
  pub added : ℕ
  pub ties : ℕ
  pub promise : PeaksAdded (conditions (length m) w h ring window radius)
      (starts_in m (search_of w h ring threshold window least_neighbours radius))
      (ties_in m (search_of w h ring threshold window least_neighbours radius))
      held before (Ok (record { count = added; ties = ties })) after

-- what the map was searched with: the border, the lifted threshold and so on
abbrev pub search_in : {m : List Float} {w h : ℕ} → PeakCall m w h → Search
search_in {m} {w} {h} p = search_of w h p.ring p.threshold p.window p.least_neighbours p.radius
