-- `response::cell::gather` meets its contract. The loop fills the first places of each quarter. Assumes nothing.
use mathlib.Core.Path.{refl}
use Prim.Native.Nat.{◌+◌, ◌<◌}
use native.Mathlib.Omega.{arith}
use borrow.Author.Rules.{rules}
use Rattle.response.proofs.Filling.{quarters-none, quarters-set, quarters-all}
use Rattle.response.proofs.cell.gather.Goals as goal
use Rattle.response.proofs.cell.gather.Goals.{In-loop-k}

pub loop-k-init : goal.loop-k-init
loop-k-init c = quarters-none _ _ refl

-- the loop's counter is below 4
below : (c : In-loop-k) → c.loop-k.k < 4
below c = search rules

pub overflow_add-s-in-loop-k : goal.overflow_add-s-in-loop-k
overflow_add-s-in-loop-k c = omega (arith, c.requires.0 (c.loop-k.k + 4) (omega (arith, below c)), c.requires.1)

pub offset_bounds-tile-base : goal.offset_bounds-tile-base
offset_bounds-tile-base c = omega (arith, c.requires.0 (c.loop-k.k + 4) (omega (arith, below c)), c.requires.1)

pub bounds-tile-base : goal.bounds-tile-base
bounds-tile-base c = c.requires.0 (c.loop-k.k + 4) (omega (arith, below (goal.at.bounds-tile-base c).In-loop-k))

pub overflow_add-s-in-loop-k-3 : goal.overflow_add-s-in-loop-k-3
overflow_add-s-in-loop-k-3 c =
    omega (
      arith,
      c.requires.0 c.loop-k.k (omega (arith, below (goal.at.overflow_add-s-in-loop-k-3 c).In-loop-k)),
      c.requires.1,
    )

pub offset_bounds-tile-base-in-loop-k : goal.offset_bounds-tile-base-in-loop-k
offset_bounds-tile-base-in-loop-k c =
    omega (
      arith,
      c.requires.0 c.loop-k.k (omega (arith, below (goal.at.offset_bounds-tile-base-in-loop-k c).In-loop-k)),
      c.requires.1,
    )

pub bounds-tile-base-in-loop-k : goal.bounds-tile-base-in-loop-k
bounds-tile-base-in-loop-k c = c.requires.0 c.loop-k.k (omega (arith, below (goal.at.bounds-tile-base-in-loop-k c).In-loop-k))

pub overflow_add-s-in-loop-k-5 : goal.overflow_add-s-in-loop-k-5
overflow_add-s-in-loop-k-5 c =
    omega (
      arith,
      c.requires.0 (c.loop-k.k + 12) (omega (arith, below (goal.at.overflow_add-s-in-loop-k-5 c).In-loop-k)),
      c.requires.1,
    )

pub offset_bounds-tile-base-in-loop-k-2 : goal.offset_bounds-tile-base-in-loop-k-2
offset_bounds-tile-base-in-loop-k-2 c =
    omega (
      arith,
      c.requires.0 (c.loop-k.k + 12) (omega (arith, below (goal.at.offset_bounds-tile-base-in-loop-k-2 c).In-loop-k)),
      c.requires.1,
    )

pub bounds-tile-base-in-loop-k-2 : goal.bounds-tile-base-in-loop-k-2
bounds-tile-base-in-loop-k-2 c =
    c.requires.0 (c.loop-k.k + 12)
    (omega (arith, below (goal.at.bounds-tile-base-in-loop-k-2 c).In-loop-k))

pub overflow_add-s-in-loop-k-8 : goal.overflow_add-s-in-loop-k-8
overflow_add-s-in-loop-k-8 c =
    omega (
      arith,
      c.requires.0 (c.loop-k.k + 8) (omega (arith, below (goal.at.overflow_add-s-in-loop-k-8 c).In-loop-k)),
      c.requires.1,
    )

pub offset_bounds-tile-base-in-loop-k-3 : goal.offset_bounds-tile-base-in-loop-k-3
offset_bounds-tile-base-in-loop-k-3 c =
    omega (
      arith,
      c.requires.0 (c.loop-k.k + 8) (omega (arith, below (goal.at.offset_bounds-tile-base-in-loop-k-3 c).In-loop-k)),
      c.requires.1,
    )

pub bounds-tile-base-in-loop-k-3 : goal.bounds-tile-base-in-loop-k-3
bounds-tile-base-in-loop-k-3 c =
    c.requires.0 (c.loop-k.k + 8)
    (omega (arith, below (goal.at.bounds-tile-base-in-loop-k-3 c).In-loop-k))

pub loop-k-preserved : goal.loop-k-preserved
loop-k-preserved c = quarters-set _ _ _ (search rules) c.loop-k.invariant

pub returns : goal.returns
returns c = quarters-all _ _ _ c.loop-k.invariant (search rules)
