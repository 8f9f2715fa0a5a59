-- `response::alone::pick` meets its contract. The loop fills the samples from the front. Assumes nothing.
use mathlib.Core.Path.{refl}
use native.Mathlib.Omega.{arith}
use borrow.Author.Rules.{rules}
use Rattle.lists.proofs.Tab.{prefix-none, prefix-set, prefix-all}
use Rattle.response.proofs.Filling.{bytes-set, bytes-none}
use Rattle.response.proofs.alone.pick.Goals as goal

pub loop-k-init : goal.loop-k-init
loop-k-init c = (prefix-none _ _ _ refl, bytes-none 16)

pub overflow_add-base : goal.overflow_add-base
overflow_add-base c = omega (arith, c.requires c.loop-k.k (search rules))

pub bounds-img-base : goal.bounds-img-base
bounds-img-base c = c.requires c.loop-k.k (search rules)

pub loop-k-preserved : goal.loop-k-preserved
loop-k-preserved c = (
  prefix-set _ _ _ _ _ c.loop-k.invariant.0 (search rules) (search rules),
  bytes-set c.loop-k.s c.loop-k.k c.from.result c.loop-k.invariant.1 (search rules),
)

pub returns : goal.returns
returns c = (prefix-all _ _ _ _ _ c.loop-k.invariant.0 (search rules) refl, c.loop-k.invariant.1)
