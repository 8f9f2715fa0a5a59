-- `response::rows::band` meets its contract: the columns passed hold their responses. Assumes nothing.
use mathlib.Core.Path.{refl}
use native.Mathlib.Omega.{arith}
use borrow.Author.Rules.{rules}
use Rattle.float32.specs.Float32.{zero}
use Rattle.response.proofs.Filling.{filled_none, filled-to, then-beside}
use Rattle.response.proofs.Tiles.{placed-still, part_of}
use Rattle.response.proofs.rows.band.Goals as goal

pub loop-i-init : goal.loop-i-init
loop-i-init c = (
  search rules,
  search rules,
  filled_none zero _ _ _ _ _ _ _ _ (λ i j p q u v. absurd (omega arith)),
)

pub block-requires : goal.block-requires
block-requires c = (
  omega arith,
  (
    (
      placed-still _ _ _ _ c.requires.placed.0 c.loop-i.invariant.2.long,
      part_of _ _ _ _ _ _ _ _ _ c.requires.placed.1 c.loop-i.invariant.0 (omega (arith, c.min-n.ensures, c.loop-i-test.true))
          (omega arith) (omega arith),
    ),
    (
      omega (arith, c.min-n.ensures, c.loop-i-test.true),
      omega (arith, c.min-n.ensures),
      c.requires.m_nonzero.0,
      c.requires.m_nonzero.1,
      omega (arith, c.min-n.ensures),
    ),
  ),
)

pub loop-i-preserved : goal.loop-i-preserved
loop-i-preserved c = (
  omega (arith, c.loop-i.invariant.0),
  omega (arith, c.min-n.ensures, c.loop-i-test.true),
  then-beside zero _ _ _ _ _ _ _ _ _ _ _ c.loop-i.invariant.2 c.block.ensures,
)

pub shape_of-map : goal.shape_of-map
shape_of-map c = c.loop-i.invariant.2.long

pub returns : goal.returns
returns c = filled-to zero _ _ _ _ _ _ _ _ _ _ _ (omega (arith, c.loop-i.invariant.1, c.loop-i-test.false)) refl c.loop-i.invariant.2
