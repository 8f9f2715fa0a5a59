-- `float32::from_bits` meets its contract. Assumes nothing.
use lib.Ieee.{of_bits, div}
use Rattle.float32.proofs.Classes.{nan_pattern, no-nan-pattern}
use Rattle.float32.proofs.from_bits.Goals as goal

pub returns-then-n-gt2139095040 : goal.returns-then-n-gt2139095040
unfolding div of_bits
returns-then-n-gt2139095040 c = nan_pattern c.args.n c.if-n-gt2139095040.true

pub float_from_bits-result : goal.float_from_bits-result
float_from_bits-result c = no-nan-pattern c.args.n c.if-n-gt2139095040.false
