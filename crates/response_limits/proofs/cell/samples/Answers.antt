-- `response_limits::cell::samples` meets its contract: what is gathered are the samples of the cell's ring. Assumes nothing.
use native.Mathlib.Omega.{arith}
use Rattle.response_limits.proofs.Samples.{sides-small, sample_in, samples-found, cross-in, cross-found, cell-small}
use Rattle.response_limits.proofs.cell.samples.Goals as goal

pub gather-requires : goal.gather-requires
gather-requires c =
    record {
      w_le_largest_side = sides-small _ _ _ _ _ c.requires.image_with_table _ _ c.requires.inner;
      by_index = sample_in _ _ _ _ _ c.requires.image_with_table _ _ c.requires.inner;
    }

pub overflow_mul-y : goal.overflow_mul-y
overflow_mul-y c = omega (arith, cell-small _ _ _ _ _ c.requires.image_with_table _ _ c.requires.inner)

pub overflow_add-y : goal.overflow_add-y
overflow_add-y c = omega (arith, cell-small _ _ _ _ _ c.requires.image_with_table _ _ c.requires.inner)

pub cross-requires : goal.cross-requires
cross-requires c = cross-in _ _ _ _ _ c.requires.image_with_table _ _ c.requires.inner

pub returns : goal.returns
returns c =
    record {
      ring_is = samples-found _ _ _ _ _ c.requires.image_with_table _ _ c.requires.inner _ c.gather.ensures;
      cross_is = cross-found _ _ _ _ _ c.requires.image_with_table _ _ c.requires.inner _ c.cross.ensures.0;
      cross_small = c.cross.ensures.1;
    }
