-- `retained::read_stream` meets its contract. Assumes the contract of `read`.
use Rattle.std.proofs.Common.{sym, ◌∙◌, arith}
use lib.Seq.{length-take-le}
use Rattle.input.proofs.Turn.{all-came, ended, goes_on, less}
use Rattle.retention.specs.Wanted.{wanted}
use Rattle.retention.proofs.Decided.{most}
use Rattle.retention.specs.Stream.{longest_input}
use Rattle.retained.proofs.Passed.{begins, wants, passes}
use Rattle.retained.proofs.read_stream.Goals as goal

pub loop-stdin-init : goal.loop-stdin-init
loop-stdin-init c = begins c.args.stream.now c.begin-input.result c.requires c.begin-input.ensures

pub slice_bounds-wanted-end : goal.slice_bounds-wanted-end
slice_bounds-wanted-end c =
    let came = c.loop-stdin.invariant.came in omega (arith, c.count-n.ensures, came.long, came.few)

pub slice_bounds-wanted-end-in-loop-stdin : goal.slice_bounds-wanted-end-in-loop-stdin
slice_bounds-wanted-end-in-loop-stdin c = sym (length-take-le _ _ (slice_bounds-wanted-end c))

pub returns-then-more-eq0 : goal.returns-then-more-eq0
returns-then-more-eq0 c =
    let inv = c.loop-stdin.invariant in
    let count = c.count-n.ensures in
    all-came wanted longest_input most _ _ inv.came _ count _ (wants _ _ _ inv _ count _ c.wanted-standing.ensures) c.if-more-eq0.true

pub returns-then-count-n : goal.returns-then-count-n
returns-then-count-n c =
    let inv = c.loop-stdin.invariant in
    let count = c.count-n.ensures in
    ended wanted longest_input most _ _ inv.came _ count _ (wants _ _ _ inv _ count _ c.wanted-standing.ensures) c.if-more-eq0.false
    _ _ c.read_on-input.ensures _ c.count.ensures c.if-count-n.true

pub loop-stdin-smaller : goal.loop-stdin-smaller
loop-stdin-smaller c =
    let inv = c.loop-stdin.invariant in
    let count = c.count-n.ensures in
    less wanted longest_input most _ _ inv.came _ count _ (wants _ _ _ inv _ count _ c.wanted-standing.ensures) c.if-more-eq0.false
    _ _ c.read_on-input.ensures _ c.count.ensures c.if-count-n.false

pub loop-stdin-preserved : goal.loop-stdin-preserved
loop-stdin-preserved c =
    let inv = c.loop-stdin.invariant in
    let count = c.count-n.ensures in
    let stands = c.wanted-standing.ensures in
    let some = c.if-more-eq0.false in
    let read = c.read_on-input.ensures in
    record {
      came = goes_on wanted longest_input most _ _ inv.came _ count _ (wants _ _ _ inv _ count _ stands) some _ _ read _
          c.count.ensures c.if-count-n.false;
      before = passes _ _ _ inv _ count _ stands some _ _ read
          (λ e. c.if-count-n.false (c.count.ensures ∙ e ∙ sym count));
    }
