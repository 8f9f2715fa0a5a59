-- `frame_writer::write_frame` meets its contract: what is not refused is written in its own part of the buffer. Assumes nothing.
use Prim.Native.Nat.{ℕ}
use native.Mathlib.Omega.{arith}
use mathlib.Core.Path.{◌≡◌, sym, ap₂, ◌∙◌}
use mathlib.Core.List.{List, ◌++◌}
use lib.ListN.{length, drop}
use lib.Seq.{length-take-le}
use Rattle.lists.proofs.Judged.{judged-ok, judged-err, passed-on}
use Rattle.stream.specs.RoundTrip.{frame_bytes}
use Rattle.frame_writer.proofs.Bytes.{frame-long}
use Rattle.frame_writer.proofs.Judgement.{Passed, passed}
use Rattle.frame_writer.proofs.Answers.{refused-written, frame-written}
use Rattle.frame_writer.proofs.write_frame.Goals as goal
use Rattle.frame_writer.proofs.write_frame.Goals.{After-length_of-end, In_ok-refusal}

-- where nothing is refused
ok : (c : In_ok-refusal) → Passed c.args.header c.args.pixels.now (length c.args.out.now)
ok c = passed c.args.header c.args.pixels.now (length c.args.out.now) (judged-ok _ _ _ c.in_ok-refusal.ensures).0

length-is : (c : After-length_of-end)
    → c.length_of-end.result ≡ length (frame_bytes c.args.header c.args.pixels.now)
length-is c =
    c.length_of-end.ensures ∙ sym (frame-long c.args.header c.args.pixels.now)

pub returns-in_err-refusal : goal.returns-in_err-refusal
returns-in_err-refusal c =
    rw (passed-on _ c.from_residual.ensures.1)
    (refused-written c.args.header c.args.pixels.now c.args.out.now _ (judged-err _ _ _ _ c.in_err-refusal.ensures))

pub length_of-end-requires : goal.length_of-end-requires
length_of-end-requires c = (ok c).few

pub slice_bounds-put_frame-end : goal.slice_bounds-put_frame-end
slice_bounds-put_frame-end c = omega (arith, length-is c, (ok (goal.at.slice_bounds-put_frame-end c).In_ok-refusal).enough)

pub slice_bounds-put_frame-end-2 : goal.slice_bounds-put_frame-end-2
slice_bounds-put_frame-end-2 c =
    sym (length-take-le _ _ (slice_bounds-put_frame-end (goal.at.slice_bounds-put_frame-end-2 c).After-length_of-end))

pub put_frame-requires : goal.put_frame-requires
put_frame-requires c = (
  (ok (goal.at.put_frame-requires c).In_ok-refusal).narrow,
  length-take-le _ _ (slice_bounds-put_frame-end (goal.at.put_frame-requires c).After-length_of-end) ∙ c.length_of-end.ensures,
)

pub returns : goal.returns
returns c =
    frame-written c.args.header c.args.pixels.now c.args.out.now
    (judged-ok _ _ _ c.in_ok-refusal.ensures).0 c.length_of-end.result _ (length-is (goal.at.returns c).After-length_of-end)
    (ap₂ (λ (s : List ℕ) (k : ℕ). s ++ drop k c.args.out.now) c.put_frame.ensures (length-is (goal.at.returns c).After-length_of-end))
