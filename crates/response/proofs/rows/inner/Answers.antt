-- `response::rows::inner` meets its contract, however many cells there are. Assumes nothing.
use mathlib.Core.Path.{◌≡◌}
use Prim.Native.Nat.{ℕ, ◌-◌, ◌<◌, ◌≤◌, min, max}
use native.Mathlib.Omega.{arith}
use Rattle.float32.specs.Float32.{zero}
use Rattle.response.specs.Internal.{small_side}
use Rattle.response.proofs.Filling.{filled_none, filled-to}
use Rattle.response.proofs.Tiles.{part_of}
use Rattle.response.proofs.rows.inner.Goals as goal
use Rattle.response.proofs.rows.inner.Goals.{Then-most-eq1}

-- what the greater and the lesser of two sides say of them
module _ (n m g l : ℕ) (greater : g ≡ max n m) (lesser : l ≡ min n m) where
  none : (p q : ℕ) → l ≡ 0 → p < n → q < m → ⊥
  none p q e x y = absurd (omega arith)

  one_each : (l ≡ 0 → ⊥) → g ≡ 1 → (n ≡ 1) × (m ≡ 1)
  one_each some e = (omega arith, omega arith)

  few-each : (l ≡ 0 → ⊥) → g ≤ small_side → (0 < n) × (n ≤ small_side) × (0 < m) × (m ≤ small_side)
  few-each some e = (omega arith, omega arith, omega arith, omega arith)

pub returns-then-min-eq0 : goal.returns-then-min-eq0
returns-then-min-eq0 c =
    filled_none zero _ _ _ _ _ _ _ _
    (λ i j p q u v. none (c.args.b - c.args.a) (c.args.e - c.args.c) _ _ c.max-most.ensures c.min.ensures (i - c.args.a)
    (j - c.args.c) c.if-min-eq0.true
    (omega arith) (omega arith))

-- one cell
only : (c : Then-most-eq1) → (c.args.b - c.args.a ≡ 1) × (c.args.e - c.args.c ≡ 1)
only c =
    one_each _ _ _ _ c.max-most.ensures c.min.ensures c.if-min-eq0.false c.if-most-eq1.true

pub single-requires : goal.single-requires
single-requires c =
    let each = only (goal.at.single-requires c).Then-most-eq1 in (
      c.requires.0,
      part_of _ _ _ _ _ _ _ _ _ c.requires.1 (omega arith) (omega (arith, each, c.requires.2)) (omega arith)
          (omega (arith, each, c.requires.3)),
    )

pub returns-then-most-eq1 : goal.returns-then-most-eq1
returns-then-most-eq1 c =
    let each = only (goal.at.returns-then-most-eq1 c).Then-most-eq1 in
    filled-to zero _ _ _ _ _ _ _ _ _ _ _ (omega (arith, each, c.requires.2)) (omega (arith, each, c.requires.3))
    c.single.ensures

pub small-requires : goal.small-requires
small-requires c =
    let each = few-each _ _ _ _ c.max-most.ensures c.min.ensures c.if-min-eq0.false
    c.if-most-le-SMALL_SIDE.true in
    record {
      placed = (
        c.requires.0,
        part_of _ _ _ _ _ _ _ _ _ c.requires.1 (omega arith) (omega (arith, c.requires.2)) (omega arith) (omega (arith, c.requires.3)),
      );
      n_nonzero = (each);
    }

pub returns-then-most-le-SMALL_SIDE : goal.returns-then-most-le-SMALL_SIDE
returns-then-most-le-SMALL_SIDE c =
    filled-to zero _ _ _ _ _ _ _ _ _ _ _ (omega (arith, c.requires.2)) (omega (arith, c.requires.3)) c.small.ensures
