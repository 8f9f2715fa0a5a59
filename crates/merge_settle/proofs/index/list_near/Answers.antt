-- `merge_settle::index::list_near` meets its contract. Assumes nothing.
use Prim.Native.Nat.{ℕ, ◌+◌}
use mathlib.Core.Path.{refl, sym, ap, ◌∙◌}
use mathlib.Core.Logic.{inl, inr}
use borrow.Author.Tests.{leb-false}
use lib.Dec.{leb}
use Rattle.merge_settle.proofs.index.list_near.Goals as goal

pub returns-then-reaches : goal.returns-then-reaches
returns-then-reaches c = inr c.list_place.ensures

pub returns-else-reaches : goal.returns-else-reaches
returns-else-reaches c =
    inl (
      leb-false _ _ (ap (λ (n : ℕ). leb c.args.floor (n + 1)) (sym c.row_of.ensures)
          ∙ sym c.reaches.ensures ∙ c.if-reaches.false),
      refl,
    )
