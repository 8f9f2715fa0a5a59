-- Demand 2: "Response maps, peaks, centroids, pyramid levels, search boxes and merged corners are then, bit for bit,
-- those of the scalar Rust on all that isn't refused, NaN matching NaN." The promises are equations with definitions.
-- Each field here says that a definition gives what the Rust's text gives. `published` has that text, function by
-- function in the order of its operations, in files named after the Rust's.
use Rattle.published.specs.RingRs.{RingAsPublished}
use Rattle.published.specs.ResponseRs.{ResponseAsPublished, PatchAsPublished, WholeAsPublished}
use Rattle.published.specs.PyramidRs.{PyramidAsPublished}
use Rattle.published.specs.NeighborsRs.{WindowAsPublished}
use Rattle.published.specs.DetectRs.{PeaksAsPublished}
use Rattle.published.specs.CenterOfMassRs.{RefineAsPublished}
use Rattle.published.specs.MultiscaleRs.{RoiAsPublished}
use Rattle.published.specs.MergeRs.{CellsAsPublished, MergeAsPublished, NaiveAsPublished}

pub record AsPublished : Type 0 where
  -- ring.rs: signed offsets
  pub ring : RingAsPublished
  -- response.rs: a cell, whose cross is summed in floats; the map of a box, whose rows are cut where the ring leaves
  -- the image; and the map of a whole image
  pub response : ResponseAsPublished
  pub patch : PatchAsPublished
  pub whole : WholeAsPublished
  -- pyramid.rs: repeated halving, and level k's scale of 2^-k
  pub pyramid : PyramidAsPublished
  -- neighbors.rs and detect.rs: windows that are clipped cell by cell, and a threshold lifted to either zero
  pub window : WindowAsPublished
  pub peaks : PeaksAsPublished
  -- center_of_mass.rs: cells that are clamped to the map, and weights lifted to either zero
  pub centroid : RefineAsPublished
  -- multiscale.rs: a search radius divided by the scale, rounded up, and boxes in signed numbers
  pub roi : RoiAsPublished
  -- merge.rs: cell numbers that are capped, and the grid of lists; and the merge without it
  pub cells : CellsAsPublished
  pub merge : MergeAsPublished
  pub naive : NaiveAsPublished
