-- The equations that bring a product of sums of naturals to one form, for `simp`. Assumes nothing.
use Rattle.std.proofs.Common.{mul_assoc, mul_comm, add-mul, mul-add, mul_left_comm}

pub ruleset poly = (add-mul, mul-add, mul_assoc, mul_comm, mul_left_comm)
