-- `listing::put_corners` meets its contract. The invariant: the lines of the corners passed are written. Assumes nothing.
use Prim.Native.Nat.{◌^◌, ◌<◌}
use native.Mathlib.Omega.{arith}
use Rattle.corner_list.specs.CornerList.{corner_at}
use Rattle.corner_list.specs.Buffer.{seen}
use Rattle.listing.proofs.Texts.{lines_none, lines_next, lines-all}
use Rattle.listing.proofs.put_corners.Goals as goal

pub loop-i-init : goal.loop-i-init
loop-i-init c =
    lines_none (corner_at (seen c.args.list)) c.args.count
    c.put_heading-at.result c.args.out.now
    c.put_heading-at.new.out c.requires.0 c.requires.1 c.put_heading-at.ensures

pub loop-i-preserved : goal.loop-i-preserved
loop-i-preserved c =
    let small : c.at.result.neighbours < 2 ^ 32 = omega (arith, c.at.type_inv) in
    lines_next (corner_at (seen c.args.list)) c.args.count
    c.put_heading-at.result
    c.put_heading-at.new.out c.loop-i.i c.loop-i.at c.loop-i.out c.loop-i.invariant
    c.put_line-at.result c.put_line-at.new.out c.at.result small c.loop-i-test.true
    c.at.ensures c.put_line-at.ensures

pub returns : goal.returns
returns c =
    lines-all (corner_at (seen c.args.list)) c.args.count
    c.put_heading-at.result
    c.put_heading-at.new.out c.loop-i.i c.loop-i.at c.loop-i.out c.loop-i.invariant
    c.loop-i-test.false c.args.out.now c.put_heading-at.ensures
