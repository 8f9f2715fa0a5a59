-- `stream::reading::wanted_body` meets its contract. Assumes nothing.
use Prim.Native.Nat.{ℕ, ◌-◌}
use native.Mathlib.Omega.{arith}
use mathlib.Core.Path.{◌≡◌, sym, ◌∙◌}
use mathlib.Core.List.{List}
use lib.ListN.{length}
use borrow.Author.Tests.{ne_eqb}
use Rattle.stream.specs.Stream.{body_length}
use Rattle.stream.specs.Wanted.{wanted_pixel_body, wanted_body}
use Rattle.stream.proofs.reading.wanted_body.Goals as goal

of-pixels : (due left : ℕ) (came : List ℕ) → due ≡ 3 → wanted_body due left came ≡ wanted_pixel_body left came
unfolding wanted_body
of-pixels due left came e = rw e

of_others : (due left : ℕ) (came : List ℕ) → (due ≡ 3 → ⊥) → wanted_body due left came ≡ body_length due - length came
unfolding wanted_body
of_others due left came h = rw (ne_eqb due 3 h)

pub returns-then-due-eq3 : goal.returns-then-due-eq3
returns-then-due-eq3 c =
    c.wanted_pixels.ensures ∙ sym (of-pixels c.args.due c.args.left c.args.came.now c.if-due-eq3.true)

pub returns : goal.returns
returns c =
    omega (arith, c.body_length.ensures, of_others c.args.due c.args.left c.args.came.now c.if-due-eq3.false)
