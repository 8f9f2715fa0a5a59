-- `input::read_on` counts what its read answers, and changes no byte but those that it asked for. Assumes the contract of `read`.
use Rattle.std.proofs.Common.{ℕ, ◌+◌, ◌-◌, ◌≤◌, min, ◌≡◌, refl, sym, ap, ◌∙◌, subst, true, List, length, ℤ, pos, negsuc, to_z, of_z, arith}
use Rattle.std.proofs.Common.{Result, Ok, Err, MatchResult}
use mir.Syntax.{w64}
use mir.ValLaws.{to_z-of_z}
use borrow.Rule.Slice.PartMut.{mid_of, put_mid, mid_len, same_len_mid, take_put, drop_put}
use Rattle.std.specs.Io.{ReadsAtMost}
use Rattle.std.specs.declared.io.Error.{Error}
use Rattle.input.specs.declared.Input.{Input}
use Rattle.input.specs.Input.{came_by, start_of, asked_of, is_below0, IsFailure, ReadOn}
use Rattle.input.proofs.read_on.Goals as goal

none_came : (z : ℤ) → is_below0 z ≡ true → came_by z ≡ 0
none_came (pos k) b = cc
none_came (negsuc k) b = refl

at_most : (r : Result ℕ Error) (z : ℤ) (ys : List ℕ) → ReadsAtMost r ys
    → MatchResult r (λ n. z ≡ pos n) (λ e. IsFailure e z) → came_by z ≤ length ys
at_most (Ok n) z ys l e = subst (λ (x : ℤ). came_by x ≤ length ys) (sym e) l.0
at_most (Err e) z ys l f = omega (arith, none_came z f.0)

-- a read of the part of the buffer that is asked for, which leaves ys there
module _
    (i : Input)
    (more : ℕ)
    (s ys : List ℕ)
    (start asked : ℕ)
    (starts : start ≡ start_of i s)
    (asks : asked ≡ asked_of i more s)
    (long : length ys ≡ length (mid_of start (start + asked - start) s)) where
  abbrev after : List ℕ
  after = put_mid start (start + asked - start) s ys

  fits : start + asked ≤ length s
  fits = omega (arith, starts, asks)

  part : length (mid_of start (start + asked - start) s) ≡ asked
  part = mid_len start (start + asked) s fits ∙ omega arith

  reads : (answer : ℤ) (came : ℕ) → came ≡ came_by answer → came_by answer ≤ length ys
      → ReadOn i more s (record { count = start + came; answer = answer }) after
  reads answer came comes most = record {
    counted = rw (← starts) (ap (λ (n : ℕ). start + n) comes);
    most = rw (← asks) (omega (arith, most, long, part));
    long = same_len_mid start (start + asked - start) s ys long;
    before = rw (← starts) (take_put start (start + asked - start) s ys (omega (arith, fits)));
    behind = rw (← asks, ← starts) (drop_put start (start + asked) s ys (omega arith) fits (long ∙ part ∙ omega arith));
  }

pub returns : goal.returns
returns c =
    let answer = c.answer_of-answer.result in
    let kept : to_z w64 (of_z w64 answer) ≡ answer = to_z-of_z w64 answer (record { sfits = c.answer_of-answer.type_inv }) in
    let start = c.min-start in
    let entry = c.args in
    rw kept
    (reads entry.input entry.more entry.buffer.now c.read-outcome.new.buf start.result c.min.result start.ensures
    (c.min.ensures ∙ ap (λ (n : ℕ). min entry.more (length entry.buffer.now - n)) start.ensures) c.read-outcome.auto.buf answer
    c.count_of.result (c.count_of.ensures ∙ ap came_by kept)
    (at_most c.read-outcome.result answer c.read-outcome.new.buf c.read-outcome.ensures.bound c.answer_of-answer.ensures))
