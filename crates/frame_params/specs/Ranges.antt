-- Condition 3 of RULES 2.2 on the parameters of a frame: a ring of 5 or 10, and radii in their ranges.
use Rattle.std.specs.Prelude.{ℕ, Bool, not, ◌&&◌, ◌||◌, leb, ltb}
use Rattle.lists.specs.Limits.{largest_radius, largest_search}
use Rattle.ring.specs.Ring.{is_ring}
use Rattle.frame_params.specs.declared.FrameParams.{FrameParams}

-- ring not 5 or 10; window or centroid radius above the largest
abbrev pub range_outside : ℕ → ℕ → ℕ → Bool
range_outside ring window centroid = not (is_ring ring) || (ltb largest_radius window || ltb largest_radius centroid)

-- the parameters that have a range are in it (RULES 1.7): a ring of 5 or 10, and window, centroid and search radius
-- at most the largest
unfoldable pub parameters_fit : FrameParams → Bool
parameters_fit p =
    not (range_outside p.ring p.window p.centroid_radius) && leb p.search_radius largest_search
