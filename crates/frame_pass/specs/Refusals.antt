-- The refusals of a frame before its pass, 1, 2, 3, 5, 8 and 9 (RULES 2.2 and 9.1).
use Rattle.std.specs.Prelude.{ℕ, ◌*◌, Bool, not, List, [], ◌∷◌, ltb}
use Rattle.lists.specs.Refusals.{is_large, is_misfit}
use Rattle.pyramid_levels.specs.Refusals.{ask, is_level_buffer_short}
use Rattle.merge_radius.specs.MergeRadius.{radius_outside}
use Rattle.frame_params.specs.declared.FrameParams.{FrameParams}
use Rattle.frame_params.specs.Ranges.{parameters_fit}

-- the conditions on the input (an image of `pixels` pixels, a map buffer and a level buffer with a given number of
-- places each) with their numbers
unfoldable pub conditions : FrameParams → ℕ → ℕ → ℕ → ℕ → ℕ → List (Bool × ℕ)
conditions p pixels w h cells places =
    (is_large w h, 1)
    ∷ (is_misfit pixels w h, 2)
    ∷ (not (parameters_fit p), 3)
    ∷ (radius_outside p.merge_radius, 5)
    ∷ (ltb cells (w * h), 8)
    ∷ (is_level_buffer_short (ask pixels places w h p.levels p.minimum_side), 9)
    ∷ []
