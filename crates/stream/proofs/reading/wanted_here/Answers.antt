-- `stream::reading::wanted_here` meets its contract. Assumes nothing.
use Prim.Native.Nat.{ℕ, ◌+◌, ◌-◌, ◌<◌, ◌≤◌}
use native.Mathlib.Omega.{arith}
use native.Mathlib.Numerals.{add-one}
use mathlib.Core.Path.{◌≡◌, sym, ◌∙◌}
use mathlib.Core.List.{List}
use lib.ListN.{length, get_or, take, drop, length-drop, drop_of_length-le}
use lib.Seq.{take_all, drop-cons}
use borrow.Author.Tests.{eq-eqb, ne_eqb}
use Rattle.stream.specs.Wanted.{wanted_body, wanted_here}
use Rattle.stream.proofs.reading.wanted_here.Goals as goal

module _ (due left : ℕ) (s : List ℕ) (at : ℕ) where
  no_kind : length s ≤ at → wanted_here due left (drop at s) ≡ 1
  unfolding wanted_here
  no_kind h = rw (drop_of_length-le s {i = at} h)

  other-kind : at < length s → (get_or s at 0 ≡ due → ⊥) → wanted_here due left (drop at s) ≡ 0
  unfolding wanted_here
  other-kind h n = rw (drop-cons s at 0 h, ne_eqb (get_or s at 0) due n)

  due-kind : at < length s → get_or s at 0 ≡ due
      → wanted_here due left (drop at s) ≡ wanted_body due left (take (length s - (at + 1)) (drop (at + 1) s))
  unfolding wanted_here
  due-kind h e =
      let all = take_all (length s - (at + 1)) (drop (at + 1) s) (omega (arith, length-drop (at + 1) s)) in
      rw (all, drop-cons s at 0 h, eq-eqb (get_or s at 0) due e, add-one)

pub returns-then-input-at : goal.returns-then-input-at
returns-then-input-at c =
    sym (no_kind c.args.due c.args.left c.args.input.now c.args.at c.if-input-at.true)

pub returns-then-input-at-2 : goal.returns-then-input-at-2
returns-then-input-at-2 c =
    sym (other-kind c.args.due c.args.left c.args.input.now c.args.at c.if-input-at.false c.if-input-at-2.true)

pub returns : goal.returns
returns c =
    c.wanted_body.ensures ∙ sym (due-kind c.args.due c.args.left c.args.input.now c.args.at c.if-input-at.false c.if-input-at-2.false)
