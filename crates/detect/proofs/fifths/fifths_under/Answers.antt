-- `detect::fifths::fifths_under` meets its contract. Assumes nothing.
use Rattle.std.proofs.Common.{ap, ◌∙◌}
use lib.Ieee.{of_bits}
use Rattle.detect.specs.Fifths.{fifths_under}
use Rattle.detect.proofs.Thresholds.{CutOff, lifted-cut}
use Rattle.detect.proofs.fifths.fifths_under.Goals as goal
use Rattle.detect.proofs.fifths.fifths_under.Goals.{After-f32_to_f64_with_nan}

-- the product, cut off
cuts : (c : After-f32_to_f64_with_nan) → CutOff c.f32_to_f64_with_nan.result
unfolding of_bits
cuts c =
    rw (c.f32_to_f64_with_nan.ensures, c.lifted-t.ensures)
    (lifted-cut _ c.well_formed.0.1 (rw (← c.lifted-t.ensures) c.if-t.false))

pub returns-then-t : goal.returns-then-t
unfolding of_bits fifths_under
returns-then-t c = rw (← c.lifted-t.ensures, c.if-t.true)

pub truncating_f64_to_u64-requires : goal.truncating_f64_to_u64-requires
unfolding of_bits
truncating_f64_to_u64-requires c = record { lower_bound = (cuts c).above; upper_bound = (cuts c).below }

pub returns : goal.returns
unfolding of_bits
returns c =
    c.truncating_f64_to_u64.ensures ∙ (cuts (goal.at.returns c).After-f32_to_f64_with_nan).is
    ∙ ap fifths_under (c.f32_to_f64_with_nan.ensures ∙ c.lifted-t.ensures)
