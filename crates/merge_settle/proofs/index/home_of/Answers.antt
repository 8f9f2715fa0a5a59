-- `merge_settle::index::home_of` meets its contract; the square of a number below 2^32 fits. Assumes nothing.
use Prim.Native.Nat.{ℕ, ◌*◌, ◌%◌, ◌<◌, ◌≤◌}
use native.Mathlib.Nat.{mul-le-mul}
use native.Mathlib.Omega.{arith}
use mathlib.Core.Path.{refl}
use Rattle.merge_settle.specs.Internal.{mix_of, home_of}
use Rattle.merge_settle.proofs.index.home_of.Goals as goal

square-fits : (n : ℕ) → n % 4294967296 * (n % 4294967296) < 18446744073709551616
square-fits n =
    let h : n % 4294967296 ≤ 4294967295 = omega arith in
    let m : n % 4294967296 * (n % 4294967296) ≤ 4294967295 * 4294967295 = mul-le-mul h h in
    omega arith

pub overflow_mul-result : goal.overflow_mul-result
overflow_mul-result c = record { fits = square-fits (mix_of c.args.x c.args.y) }

pub returns : goal.returns
unfolding home_of
returns c = refl
