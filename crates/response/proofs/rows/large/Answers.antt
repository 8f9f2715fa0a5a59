-- `response::rows::large` meets its contract: the rows passed hold their responses. Assumes nothing.
use mathlib.Core.Path.{refl}
use native.Mathlib.Omega.{arith}
use borrow.Author.Rules.{rules}
use Rattle.float32.specs.Float32.{zero}
use Rattle.response.proofs.Filling.{filled_none, filled-to, then-below}
use Rattle.response.proofs.Tiles.{placed-still, part_of}
use Rattle.response.proofs.rows.large.Goals as goal

pub loop-j-init : goal.loop-j-init
loop-j-init c = (
  search rules,
  c.requires.3,
  filled_none zero _ _ _ _ _ _ _ _ (λ i j p q u v. absurd (omega arith)),
)

pub band-requires : goal.band-requires
band-requires c =
    record {
      placed = (
        placed-still _ _ _ _ c.requires.0 c.loop-j.invariant.2.long,
        part_of _ _ _ _ _ _ _ _ _ c.requires.1 (omega arith) (omega arith) c.loop-j.invariant.0
            (omega (arith, c.min-m.ensures, c.loop-j-test.true)),
        c.requires.2,
      );
      m_nonzero = ((omega (arith, c.min-m.ensures, c.loop-j-test.true), omega (arith, c.min-m.ensures)));
    }

pub loop-j-preserved : goal.loop-j-preserved
loop-j-preserved c = (
  omega (arith, c.loop-j.invariant.0),
  omega (arith, c.min-m.ensures, c.loop-j-test.true),
  then-below zero _ _ _ _ _ _ _ _ _ _ _ c.loop-j.invariant.2 c.band.ensures,
)

pub shape_of-map : goal.shape_of-map
shape_of-map c = c.loop-j.invariant.2.long

pub returns : goal.returns
returns c = filled-to zero _ _ _ _ _ _ _ _ _ _ _ refl (omega (arith, c.loop-j.invariant.1, c.loop-j-test.false)) c.loop-j.invariant.2
