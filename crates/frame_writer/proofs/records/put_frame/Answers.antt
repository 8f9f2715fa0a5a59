-- `frame_writer::records::put_frame` meets its contract: head, pixels and end, one behind the other. Assumes nothing.
use native.Mathlib.Omega.{arith}
use mathlib.Core.Path.{sym, ap, ◌∙◌}
use lib.ListN.{length}
use lib.Seq.{length-take-le}
use Rattle.frame_writer.proofs.Filled.{head-stands, frame-stands}
use Rattle.frame_writer.proofs.records.put_frame.Goals as goal

pub slice_bounds-copy_from_slice-end-2 : goal.slice_bounds-copy_from_slice-end-2
slice_bounds-copy_from_slice-end-2 c = sym (length-take-le 22 c.args.out.now (omega arith))

pub copy_from_slice-requires : goal.copy_from_slice-requires
copy_from_slice-requires c =
    length-take-le 22 c.args.out.now (omega arith) ∙ sym (ap length c.head_of-head.ensures)

pub returns : goal.returns
returns c =
    frame-stands c.args.header c.args.pixels.now c.args.out.now c.requires.1 _ _
    (head-stands c.args.header c.args.pixels.now c.args.out.now c.requires.1 _ _ c.head_of-head.ensures c.copy_from_slice.ensures.after)
    c.put_pixels.ensures
