-- `image_size::refusal` meets its contract, by the table. Assumes nothing.
use mathlib.Core.Path.{sym, ◌∙◌}
use native.Mathlib.Nat.{mul-le-mul}
use native.Mathlib.Omega.{arith}
use borrow.Author.Rules.{rules}
use Rattle.lists.proofs.Refusals.{sides-small}
use Rattle.image_size.specs.ImageSize.{refusal_of}
use Rattle.image_size.proofs.refusal.Goals as goal

pub returns-then-is_large : goal.returns-then-is_large
unfolding refusal_of
returns-then-is_large c = search rules

pub overflow_mul-w : goal.overflow_mul-w
overflow_mul-w c =
    let s = sides-small c.args.w c.args.h (sym c.is_large.ensures ∙ c.if-is_large.false) in omega (arith, mul-le-mul s.0 s.1)

pub returns-then-size-w : goal.returns-then-size-w
unfolding refusal_of
returns-then-size-w c = search rules

pub returns : goal.returns
unfolding refusal_of
returns c = search rules
