-- `response_limits::cell::gather` meets its contract: the loop fills the samples from the front. Assumes nothing.
use mathlib.Core.Path.{refl, ap}
use Prim.Native.Nat.{ℕ}
use lib.ListN.{get_or}
use Rattle.lists.proofs.Tab.{prefix-none, prefix-set, prefix-all}
use borrow.Author.Rules.{rules}
use Rattle.response_limits.proofs.cell.gather.Goals as goal

pub loop-k-init : goal.loop-k-init
loop-k-init c = prefix-none _ _ _ refl

pub bounds-img-place : goal.bounds-img-place
bounds-img-place c =
    rw c.place.ensures (c.requires.by_index c.loop-k.k (search rules))

pub loop-k-preserved : goal.loop-k-preserved
loop-k-preserved c =
    prefix-set _ _ _ _ _ c.loop-k.invariant (search rules) (ap (λ (i : ℕ). get_or c.args.img.now i 0) c.place.ensures)

pub returns : goal.returns
returns c = prefix-all _ _ _ _ _ c.loop-k.invariant (search rules) refl
