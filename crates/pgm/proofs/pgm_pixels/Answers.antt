-- `pgm::pgm_pixels` meets its contract: the part behind the header, and nothing where the upload is refused. Assumes nothing.
use native.Mathlib.Omega.{arith}
use Rattle.pgm.proofs.Judging.{Located, located, located-pixels, refused-pixels}
use Rattle.pgm.proofs.pgm_pixels.Goals as goal
use Rattle.pgm.proofs.pgm_pixels.Goals.{In-Ok}

pub returns-in_default : goal.returns-in_default
returns-in_default c = refused-pixels _ _ c.in_default.ensures

-- where the pixels are
pixels : (c : In-Ok) → Located c.args.upload.now c.in-Ok.image.at c.in-Ok.image.w c.in-Ok.image.h
pixels c = located _ _ c.in-Ok.ensures

pub overflow_mul-end : goal.overflow_mul-end
overflow_mul-end c = record { fits = omega (arith, (pixels (goal.at.overflow_mul-end c).In-Ok).small) }

pub overflow_add-end : goal.overflow_add-end
overflow_add-end c = omega (arith, (pixels (goal.at.overflow_add-end c).In-Ok).inside)

pub slice_bounds-result-end-2 : goal.slice_bounds-result-end-2
slice_bounds-result-end-2 c = (pixels (goal.at.slice_bounds-result-end-2 c).In-Ok).inside

pub returns : goal.returns
returns c = located-pixels _ _ _ _ (pixels (goal.at.returns c).In-Ok)
