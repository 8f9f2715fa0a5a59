-- `pgm::header::read_number` meets its contract. The invariant: the digits from this place on behind the number so far give the number of
-- all. Assumes nothing.
use native.Mathlib.Omega.{arith}
use Rattle.pgm.proofs.Numbers.{reading-one, reading-next}
use Rattle.pgm.proofs.header.read_number.Goals as goal

pub loop-digit-init : goal.loop-digit-init
loop-digit-init c =
    reading-one _ _ c.requires _ c.in_ok-value.ensures _ c.skip_comments-end.ensures

pub loop-digit-preserved : goal.loop-digit-preserved
loop-digit-preserved c =
    reading-next _ _ _ _ c.loop-digit.invariant _ c.in-Some.ensures _ (omega (arith, c.min-value.ensures)) _
    c.skip_comments-end-in-Some.ensures
