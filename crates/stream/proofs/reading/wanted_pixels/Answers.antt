-- `stream::reading::wanted_pixels` meets its contract. Assumes nothing.
use Prim.Native.Nat.{ℕ, suc, ◌-◌, min}
use native.Mathlib.Omega.{arith}
use mathlib.Core.Path.{◌≡◌, sym, ◌∙◌}
use mathlib.Core.List.{List}
use lib.ListN.{length}
use borrow.Author.Tests.{ne_eqb}
use Rattle.lists.proofs.Judged.{checked-err, checked-ok}
use Rattle.stream.specs.Stream.{padding_fault}
use Rattle.stream.specs.Wanted.{wanted_pixel_body}
use Rattle.stream.proofs.reading.wanted_pixels.Goals as goal

-- by the padding that came
padding-wrong : (left : ℕ) (came : List ℕ) → (padding_fault left came ≡ 0 → ⊥) → wanted_pixel_body left came ≡ 0
unfolding wanted_pixel_body
padding-wrong left came h = rw (ne_eqb (padding_fault left came) 0 h)

padding-right : (left : ℕ) (came : List ℕ) → padding_fault left came ≡ 0
    → wanted_pixel_body left came ≡ min (32 - length came) (suc (left - length came))
unfolding wanted_pixel_body
padding-right left came e = rw e

pub returns-then-is_err : goal.returns-then-is_err
returns-then-is_err c =
    sym (padding-wrong _ _ (checked-err _ _ c.padding_fault.ensures (sym c.is_err.ensures.value ∙ c.if-is_err.true)))

pub returns : goal.returns
returns c =
    omega (
      arith,
      padding-right c.args.left c.args.came.now
          (checked-ok _ _ c.padding_fault.ensures (sym c.is_err.ensures.value ∙ c.if-is_err.false)),
    )
