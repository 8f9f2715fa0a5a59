-- `response::rows::small` meets its contract: it is that of one block. Assumes nothing.
use native.Mathlib.Omega.{arith}
use Rattle.response.proofs.rows.small.Goals as goal

pub block-requires : goal.block-requires
block-requires c = (
  omega arith,
  (
    c.requires.placed,
    (
      c.requires.n_nonzero.0,
      omega (arith, c.requires.n_nonzero.1),
      c.requires.n_nonzero.2,
      c.requires.n_nonzero.3,
      omega (arith, c.requires.n_nonzero.1),
    ),
  ),
)
