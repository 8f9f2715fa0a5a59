-- `corners::read_stream` meets its contract. Assumes the contract of `read`.
use Rattle.std.proofs.Common.{sym, subst, arith}
use lib.Seq.{length-take-le}
use Rattle.input.specs.declared.Input.{Input}
use Rattle.input.proofs.Turn.{Came, all-came, ended, goes_on, less}
use Rattle.stream.specs.Wanted.{wanted}
use Rattle.stream.proofs.Decided.{frame-wants}
use Rattle.stream.specs.Stream.{longest_stream}
use Rattle.corners.proofs.read_stream.Goals as goal

pub loop-stdin-init : goal.loop-stdin-init
loop-stdin-init c = subst (λ (i : Input). Came longest_stream c.args.stream.now i) (sym c.begin-input.ensures)
    (record { long = c.requires; few = omega arith; some = tt })

pub slice_bounds-wanted-end : goal.slice_bounds-wanted-end
slice_bounds-wanted-end c =
    let came = c.loop-stdin.invariant in omega (arith, c.count-n.ensures, came.long, came.few)

pub slice_bounds-wanted-end-in-loop-stdin : goal.slice_bounds-wanted-end-in-loop-stdin
slice_bounds-wanted-end-in-loop-stdin c = sym (length-take-le _ _ (slice_bounds-wanted-end c))

pub returns-then-more-eq0 : goal.returns-then-more-eq0
returns-then-more-eq0 c =
    all-came wanted longest_stream (λ s. (frame-wants s).total) _ _ c.loop-stdin.invariant _ c.count-n.ensures _
    c.wanted-more.ensures c.if-more-eq0.true

pub returns-then-count-n : goal.returns-then-count-n
returns-then-count-n c =
    ended wanted longest_stream (λ s. (frame-wants s).total) _ _ c.loop-stdin.invariant _ c.count-n.ensures _
    c.wanted-more.ensures c.if-more-eq0.false _ _ c.read_on-input.ensures _ c.count.ensures c.if-count-n.true

pub loop-stdin-smaller : goal.loop-stdin-smaller
loop-stdin-smaller c =
    less wanted longest_stream (λ s. (frame-wants s).total) _ _ c.loop-stdin.invariant _ c.count-n.ensures _
    c.wanted-more.ensures c.if-more-eq0.false _ _ c.read_on-input.ensures _ c.count.ensures c.if-count-n.false

pub loop-stdin-preserved : goal.loop-stdin-preserved
loop-stdin-preserved c =
    goes_on wanted longest_stream (λ s. (frame-wants s).total) _ _ c.loop-stdin.invariant _ c.count-n.ensures _
    c.wanted-more.ensures c.if-more-eq0.false _ _ c.read_on-input.ensures _ c.count.ensures c.if-count-n.false
