-- `stream::kinds::record_fault` meets its contract, return by return. Assumes nothing.
use Prim.Native.Nat.{◌+◌, ◌-◌}
use native.Mathlib.Omega.{arith}
use mathlib.Core.Path.{◌≡◌, sym, ap, ◌∙◌}
use Rattle.lists.specs.Refusals.{verdict}
use Rattle.lists.proofs.Judged.{judged-ok, refused-some, passed-on}
use Rattle.stream.proofs.Records.{fault-end, fault-kind, fault-cut, fault-body}
use Rattle.stream.proofs.kinds.record_fault.Goals as goal

pub returns-then-input-at : goal.returns-then-input-at
returns-then-input-at c =
    ap verdict (sym (fault-end c.args.due c.args.left c.args.input.now c.args.at c.if-input-at.true))

pub returns-in_err-kind_fault : goal.returns-in_err-kind_fault
returns-in_err-kind_fault c =
    passed-on _ c.from_residual.ensures.1 ∙ c.in_err-kind_fault.ensures
    ∙ ap verdict
    (sym (fault-kind c.args.due c.args.left c.args.input.now c.args.at c.if-input-at.false
    (refused-some _ _ _ c.in_err-kind_fault.ensures)))

pub returns-then-input-start : goal.returns-then-input-start
returns-then-input-start c =
    ap verdict
    (sym (fault-cut c.args.due c.args.left c.args.input.now c.args.at c.if-input-at.false
    (judged-ok _ _ _ c.in_ok-kind_fault.ensures).0 (omega (arith, c.body_length-count.ensures))))

pub returns : goal.returns
returns c =
    let n = c.args.at + 1 + c.body_length-count.result - (c.args.at + 1) in
    let e : n ≡ c.body_length-count.result = omega arith in
    c.body_fault.ensures
    ∙ ap verdict
    (sym (fault-body c.args.due c.args.left c.args.input.now c.args.at c.if-input-at.false
    (judged-ok _ _ _ c.in_ok-kind_fault.ensures).0 n (e ∙ c.body_length-count.ensures) (omega arith)))
