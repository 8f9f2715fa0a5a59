-- `float32::to_bits` meets its contract. Assumes nothing.
use Rattle.std.proofs.Common.{sym, ap}
use Rattle.std.proofs.lemmas.Float.{T_from_true}
use lib.Ieee.{to_bits, binary32}
use Rattle.float32.proofs.Classes.{is-nan}
use Rattle.float32.proofs.to_bits.Goals as goal

pub returns-then-is_nan : goal.returns-then-is_nan
unfolding to_bits
returns-then-is_nan c = ap (to_bits binary32) (is-nan c.args.x (T_from_true _ (sym c.if-is_nan.ensures.value)))
