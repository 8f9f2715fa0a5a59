-- What `zakdomp_pgm` promises, by the promise of `read_pgm`.
use Rattle.std.specs.Prelude.{ℕ, ◌≡◌, List}
use Rattle.pgm.specs.Header.{width_of, height_of, raster_at}
use Rattle.pgm.specs.Pgm.{image_of, PgmRead}
use Rattle.lists.specs.Refusals.{judged, result_or}

-- r is the number of the answer, and the place of the pixels and both sides are the answer's too
pub record ImageRead (upload : List ℕ) (at width height r at' width' height' : ℕ) : Type 0 where
  pub answer : PgmRead upload (judged r (image_of upload))
  pub at_is : at' ≡ result_or r (raster_at upload) at
  pub width_is : width' ≡ result_or r (width_of upload) width
  pub height_is : height' ≡ result_or r (height_of upload) height
