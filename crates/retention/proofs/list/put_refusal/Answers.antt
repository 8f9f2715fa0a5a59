-- `retention::list::put_refusal` meets its contract: the listing's own text, copied. Assumes nothing.
use native.Mathlib.Omega.{arith}
use Rattle.retention.proofs.Texts.{number-small, text-short}
use Rattle.retention.proofs.list.put_refusal.Goals as goal

pub slice_bounds-copy_from_slice-end : goal.slice_bounds-copy_from_slice-end
slice_bounds-copy_from_slice-end c =
    let small = number-small c.args.refusal in
    omega (arith, text-short _ (omega (arith, small, c.from.ensures)) _ _ _ c.write_refusal-n.ensures)
