-- `finder::list_stream` meets its contract, by the laws of `Texts`. Assumes nothing.
use native.Mathlib.Omega.{arith}
use mathlib.Core.Path.{sym}
use lib.Seq.{length-take-le}
use Rattle.lists.proofs.Judged.{passed-on}
use Rattle.finder.proofs.Texts.{found-frame, stream-lists, stream-refused}
use Rattle.finder.proofs.list_stream.Goals as goal

pub returns-in_err-header : goal.returns-in_err-header
returns-in_err-header c = rw (passed-on _ c.from_residual.ensures.1) (stream-refused _ _ _ _ c.in_err-header.ensures _)

pub overflow_mul-pixels : goal.overflow_mul-pixels
overflow_mul-pixels c = omega (arith, (found-frame _ _ _ _ c.in_ok-header.ensures).fits)

pub slice_bounds-pixels-end : goal.slice_bounds-pixels-end
slice_bounds-pixels-end c = omega (arith, (found-frame _ _ _ _ c.in_ok-header.ensures).fits, c.read_frame.array_long)

pub slice_bounds-list_frame-end : goal.slice_bounds-list_frame-end
slice_bounds-list_frame-end c =
    sym (length-take-le _ _ (omega (arith, (found-frame _ _ _ _ c.in_ok-header.ensures).fits, c.read_frame.array_long)))

pub returns : goal.returns
returns c = stream-lists _ _ _ _ c.in_ok-header.ensures _ _ _ c.list_frame.ensures
