-- `pyramid::halve::run` meets its contract: the pixels made apart are put at their place. Assumes nothing.
use Prim.Native.Nat.{◌^◌, ◌<◌}
use native.Mathlib.Omega.{arith}
use mathlib.Core.Path.{refl}
use lib.ListN.{length}
use Rattle.std.proofs.Common.{length-take-le}
use Rattle.lists.proofs.Tab.{part_length}
use Rattle.pyramid.specs.Internal.{holder_of}
use Rattle.pyramid.proofs.Halving.{holder-short, run-put}
use Rattle.pyramid.proofs.halve.run.Goals as goal
use Rattle.pyramid.proofs.halve.run.Goals.{Start}

short : (c : Start) → length (holder_of c.args.base.now c.args.levels.now c.args.k) < 2 ^ 64
short c = holder-short _ _ c.args.k _ c.well_formed.0.0 c.well_formed.1.1.1.1.0.0

pub overflow_add-top : goal.overflow_add-top
overflow_add-top c = record { fits = omega (arith, short (goal.at.overflow_add-top c).Start, c.requires.inside) }

pub means-requires : goal.means-requires
means-requires c =
    rw c.holder.ensures (c.requires.few, omega (arith, c.requires.inside), c.requires.inside, refl)

pub copy_from_slice-requires : goal.copy_from_slice-requires
copy_from_slice-requires c =
    let part = part_length c.args.at c.args.n c.args.levels.now c.requires.fits in
    let made = length-take-le c.args.n c.means.new.out (omega (arith, c.requires.few, c.means.array_long)) in
    omega arith

pub returns : goal.returns
returns c =
    rw c.copy_from_slice.ensures.after
    (run-put _ _ _ _ _ _ _ _ c.requires.few (rw c.holder.ensures at c.means.ensures))
