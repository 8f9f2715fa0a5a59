-- `frame::checked::CheckedFrame::add_patch` meets its contract, by the laws of `Boxes`. Assumes nothing.
use native.Mathlib.Omega.{arith}
use mathlib.Core.Path.{◌≡◌, sym, ◌∙◌}
use mathlib.Core.List.{[]}
use lib.Dec.{le→leb}
use lib.Ieee.{in_float}
use Rattle.std.specs.Prelude.{None, Some}
use Rattle.std.specs.Result.{result_unwrap_or}
use Rattle.lists.proofs.Judged.{passed-on}
use Rattle.multiscale.specs.Multiscale.{roi_of}
use Rattle.patch_corners.specs.OneMap.{choice_of}
use Rattle.frame_pass.specs.Pass.{context_at}
use Rattle.frame.proofs.Moving.{moved-added, moved-refused}
use Rattle.frame.proofs.Boxes.{about-none, about-corner, about-added}
use Rattle.frame.proofs.checked.CheckedFrame.add_patch.Goals as goal
use Rattle.frame.proofs.checked.CheckedFrame.add_patch.Goals.{In-Some}

pub returns-in_default-clause-added : goal.returns-in_default-clause-added
returns-in_default-clause-added c =
    about-none (choice_of c.args.self.now.p c.args.self.now.exact) c.args.self.now.p c.args.self.now.img.now _ _ _ _
    (sym c.in_default.is ∙ c.box_of.ensures) _ _ c.requires.1

-- the seed has a box
boxed : (c : In-Some) → Some c.in-Some.area
    ≡ result_unwrap_or (roi_of (context_at c.args.self.now.p [] c.args.self.now.w c.args.self.now.h c.args.k) c.args.seed) None
boxed c = sym c.in-Some.is ∙ c.box_of.ensures

pub returns-in_err-added-clause-added : goal.returns-in_err-added-clause-added
returns-in_err-added-clause-added c =
    rw (passed-on _ c.from_residual.ensures.1, ← c.in_err-added.was)
    (about-added (choice_of c.args.self.now.p c.args.self.now.exact) c.args.self.now.p c.args.self.now.img.now _ _ _ _ _
    (boxed (goal.at.returns-in_err-added-clause-added c).In-Some) _ _ _ _
    (moved-refused _ _ _ _ _ _ _ _ c.add_patch_corners.ensures.added _ c.in_err-added.was))

pub int_to_float-area : goal.int_to_float-area
unfolding in_float
int_to_float-area c =
    let corner = about-corner (choice_of c.args.self.now.p c.args.self.now.exact) c.args.self.now.p c.args.self.now.img.now _ _ _ _ _
    (boxed (goal.at.int_to_float-area c).In-Some) c.args.self.now.sound in
    omega (arith, le→leb, corner.0)

pub int_to_float-area-2 : goal.int_to_float-area-2
unfolding in_float
int_to_float-area-2 c =
    let corner = about-corner (choice_of c.args.self.now.p c.args.self.now.exact) c.args.self.now.p c.args.self.now.img.now _ _ _ _ _
    (boxed (goal.at.int_to_float-area-2 c).In-Some) c.args.self.now.sound in
    omega (arith, le→leb, corner.1)

pub returns-clause-added : goal.returns-clause-added
returns-clause-added c =
    about-added (choice_of c.args.self.now.p c.args.self.now.exact) c.args.self.now.p c.args.self.now.img.now _ _ _ _ _
    (boxed (goal.at.returns-clause-added c).In-Some)
    _ _ _ _
    (moved-added _ _ _ _ _ _ _ _ c.add_patch_corners.ensures.added _ c.in_ok-added.was _ _ c.shift.ensures c.shift-2.ensures)
