-- What contracts of private functions say about a pyramid that is not refused: no public promise depends on it.
use Rattle.std.specs.Prelude.{◌≤◌}
use Rattle.lists.specs.Internal.{Sized}
use Rattle.pyramid_levels.specs.Levels.{cells_above}
use Rattle.pyramid_levels.specs.Refusals.{Ask, levels_of}

-- nothing refuses to build: the level buffer has enough places
pub record LevelsAccepted (a : Ask) : Type 0 where
  pub image : Sized a.pixels a.w a.h
  pub fits : cells_above a.w a.h (levels_of a) ≤ a.places
