-- The parameters of a frame (RULES 1.7), from nine numbers in the order in which they are given.
use Rattle.std.specs.Prelude.{ℕ, Float}
use Rattle.frame_params.specs.declared.FrameParams.{FrameParams}

abbrev pub params : ℕ → Float → ℕ → ℕ → ℕ → Float → ℕ → ℕ → ℕ → FrameParams
params ring threshold window least centroid radius levels minimum search =
    record {
      ring = ring;
      threshold = threshold;
      window = window;
      least_neighbours = least;
      centroid_radius = centroid;
      merge_radius = radius;
      levels = levels;
      minimum_side = minimum;
      search_radius = search;
    }
