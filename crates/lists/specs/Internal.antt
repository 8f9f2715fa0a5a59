-- What private functions are given: no public promise depends on it.
use Rattle.std.specs.Prelude.{ℕ, ◌*◌, ◌≤◌, ◌≡◌}
use Rattle.lists.specs.Limits.{largest_side}

-- an image or a map of w by h, neither of conditions 1 and 2
pub record Sized (size w h : ℕ) : Type 0 where
  pub narrow : w ≤ largest_side
  pub low : h ≤ largest_side
  pub sized : size ≡ w * h
