-- `response::cell::with_pair` meets its contract, before the fifth pair and from there on. Assumes nothing.
use mathlib.Core.Path.{refl}
use Prim.Native.Nat.{◌-◌}
use native.Mathlib.Omega.{arith}
use Rattle.response.proofs.OnePass.{stepped, early, late, sr-fits}
use Rattle.response.proofs.cell.with_pair.Goals as goal

pub returns-then-k-lt4 : goal.returns-then-k-lt4
returns-then-k-lt4 c =
    stepped c.args.k c.args.a c.args.b c.args.h _ c.requires.2 c.requires.3 c.requires.1
    (early c.args.k c.args.a c.args.b c.args.h _ _ refl c.gap.ensures c.if-k-lt4.true)

pub gap-requires-2 : goal.gap-requires-2
gap-requires-2 c = omega (arith, c.requires.1.first_small (c.args.k - 4))

pub overflow_add-result : goal.overflow_add-result
overflow_add-result c =
    record {
      fits =
          sr-fits c.args.k _ _ _ _ c.requires.0 c.requires.1.sr_small (c.requires.1.first_small _)
          (omega (arith, c.requires.2, c.requires.3))
          c.gap-2.ensures;
    }

pub returns : goal.returns
returns c =
    stepped c.args.k c.args.a c.args.b c.args.h _ c.requires.2 c.requires.3 c.requires.1
    (late c.args.k c.args.a c.args.b c.args.h _ _ refl c.gap.ensures c.if-k-lt4.false _ c.gap-2.ensures)
