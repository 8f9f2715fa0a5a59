-- `frame_writer::records::put_pixels` meets its contract. The invariant: the bytes passed stand first. Assumes nothing.
use Prim.Native.Nat.{ℕ}
use native.Mathlib.Omega.{arith}
use mathlib.Core.Path.{◌≡◌, refl, ap, ◌∙◌}
use mathlib.Core.List.{List, append-nil}
use lib.ListN.{length, set, drop_of_length-le}
use Rattle.lists.specs.Tab.{tab}
use Rattle.lists.specs.Buffer.{front}
use Rattle.lists.proofs.Tab.{length-tab}
use Rattle.lists.proofs.Buffer.{front-tab}
use Rattle.frame_writer.specs.Internal.{record_byte}
use Rattle.frame_writer.proofs.records.put_pixels.Goals as goal

pub loop-j-init : goal.loop-j-init
unfolding tab
loop-j-init c = refl

pub loop-j-preserved : goal.loop-j-preserved
loop-j-preserved c =
    ap (λ (s : List ℕ). set s c.loop-j.j c.record_byte.result) c.loop-j.invariant
    ∙ rw c.record_byte.ensures (front-tab (record_byte c.args.pixels.now) c.args.out.now c.loop-j.j (omega arith))

-- all of them
filled : (f : ℕ → ℕ) (d : List ℕ) → front (tab (length d) f) d ≡ tab (length d) f
filled f d = rw (length-tab (length d) f, drop_of_length-le d {i = length d} (omega arith), append-nil)

pub returns : goal.returns
returns c =
    let done : c.loop-j.j ≡ length c.args.out.now = omega arith in
    rw (c.loop-j.invariant, done) (filled (record_byte c.args.pixels.now) c.args.out.now)
