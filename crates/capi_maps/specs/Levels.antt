-- What `zakdomp_levels` promises, by the promise of `build_pyramid`.
use Rattle.std.specs.Prelude.{ℕ, ◌≡◌, List}
use Rattle.pyramid_levels.specs.Levels.{level_count}
use Rattle.pyramid.specs.Build.{Built}
use Rattle.lists.specs.Refusals.{judged, result_or}

-- r is the number of the answer, and the level buffer and the count are the answer's too
pub record LevelsBuilt (img : List ℕ) (w h count minimum : ℕ) (levels : List ℕ) (built r : ℕ)
    (levels' : List ℕ) (built' : ℕ) : Type 0 where
  pub answer : Built img w h count minimum levels (judged r (level_count w h count minimum)) levels'
  pub built_is : built' ≡ result_or r (level_count w h count minimum) built
