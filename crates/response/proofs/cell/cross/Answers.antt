-- `response::cell::cross` meets its contract: the sum of five bytes fits. Assumes nothing.
use Prim.Native.Nat.{◌+◌, ◌-◌}
use native.Mathlib.Omega.{arith}
use Rattle.response.proofs.cell.cross.Goals as goal

pub overflow_add-result : goal.overflow_add-result
overflow_add-result c =
    omega (arith, c.requires.0 c.args.mid, c.requires.0 (c.args.mid - c.args.s))

pub overflow_add-result-3 : goal.overflow_add-result-3
overflow_add-result-3 c =
    omega (arith, c.requires.0 c.args.mid, c.requires.0 (c.args.mid - c.args.s), c.requires.0 (c.args.mid + c.args.s))

pub overflow_add-result-5 : goal.overflow_add-result-5
overflow_add-result-5 c =
    omega (
      arith,
      c.requires.0 c.args.mid,
      c.requires.0 (c.args.mid - c.args.s),
      c.requires.0 (c.args.mid + c.args.s),
      c.requires.0 (c.args.mid + 1),
    )

pub overflow_add-result-6 : goal.overflow_add-result-6
overflow_add-result-6 c =
    omega (
      arith,
      c.requires.0 c.args.mid,
      c.requires.0 (c.args.mid - c.args.s),
      c.requires.0 (c.args.mid + c.args.s),
      c.requires.0 (c.args.mid + 1),
      c.requires.0 (c.args.mid - 1),
    )
