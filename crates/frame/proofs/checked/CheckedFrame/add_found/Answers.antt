-- `frame::checked::CheckedFrame::add_found` meets its contract: with one level by `Levels`; with more the corners of the boxes of the seeds
-- passed stand first in the buffer, and their peaks' ties are summed. Assumes nothing.
use borrow.Author.Rules.{rules}
use Prim.Native.Nat.{◌+◌}
use native.Mathlib.Omega.{arith}
use mathlib.Core.Path.{◌≡◌, refl}
use Rattle.lists.proofs.Judged.{passed-on}
use Rattle.lists.proofs.Tab.{length-tab}
use Rattle.corner_list.specs.CornerList.{corner_at, corners_of}
use Rattle.corner_list.specs.Buffer.{seen}
use Rattle.patch_corners.specs.OneMap.{choice_of}
use Rattle.frame_pass.proofs.Ties.{seeds-tied}
use Rattle.frame.proofs.Adding.{adds-held, turn-none, turn_more, turn-full, turns-all, sum_fits}
use Rattle.frame.proofs.Levels.{found-whole, found-boxes}
use Rattle.frame.proofs.checked.CheckedFrame.add_found.Goals as goal

pub returns-then-n-eq1-clause-added : goal.returns-then-n-eq1-clause-added
returns-then-n-eq1-clause-added c =
    found-whole (choice_of c.args.self.now.p c.args.self.now.exact) _ _ _ _ _ c.if-n-eq1.true _ _ _ _ c.add_image_corners.ensures.added

pub loop-i-init : goal.loop-i-init
loop-i-init c = (search rules, refl, turn-none _ _ _ _)

pub add_patch-requires : goal.add_patch-requires
add_patch-requires c = (
  omega (arith, c.requires.enough, c.loop-i.invariant.1),
  adds-held _ _ _ _ _ _ c.loop-i.invariant.2,
  omega (arith, c.saturating_sub-k.ensures, c.requires.few.0),
)

pub returns-in_err-more-clause-added : goal.returns-in_err-more-clause-added
returns-in_err-more-clause-added c =
    rw (passed-on _ c.from_residual.ensures.1, ← c.in_err-more.was)
    (found-boxes (choice_of c.args.self.now.p c.args.self.now.exact) _ _ _ _ _ c.if-n-eq1.false _ c.saturating_sub-k.ensures _ _ _ _
    (turn-full _ _ _ _ _ _ _ _ c.loop-i.invariant.2 _ c.at.ensures _ _
    c.add_patch.ensures.added _ c.in_err-more.was _ c.loop-i-test.true))

pub overflow_add-held : goal.overflow_add-held
overflow_add-held c =
    let more = turn_more _ _ _ _ _ _ _ _ c.loop-i.invariant.2 _ c.at.ensures _ _
    c.add_patch.ensures.added _ c.in_ok-more.was in
    omega (arith, (more.added _ refl).1, c.well_formed)

pub overflow_add-ties : goal.overflow_add-ties
overflow_add-ties c =
    let more = turn_more _ _ _ _ _ _ _ _ c.loop-i.invariant.2 _ c.at.ensures _ _
    c.add_patch.ensures.added _ c.in_ok-more.was in
    let seeds = seen c.args.seeds in
    let few = seeds-tied c.args.self.now.p c.args.self.now.exact c.args.self.now.img.now c.args.self.now.w c.args.self.now.h
    c.args.self.now.sound
    c.saturating_sub-k.result (corners_of seeds (c.loop-i.i + 1)) in
    omega (
      arith,
      sum_fits _ _ _ _ (more.added _ refl).3 few _
          (length-tab (c.loop-i.i + 1) (corner_at seeds)) c.loop-i-test.true c.requires.few.1,
    )

pub loop-i-preserved : goal.loop-i-preserved
loop-i-preserved c =
    let more = turn_more _ _ _ _ _ _ _ _ c.loop-i.invariant.2 _ c.at.ensures _ _
    c.add_patch.ensures.added _ c.in_ok-more.was in
    (search rules, omega (arith, c.add_patch.auto, c.loop-i.invariant.1), more)

pub returns-clause-added : goal.returns-clause-added
returns-clause-added c =
    let all : c.loop-i.i ≡ c.args.m = omega arith in
    let seeds = seen c.args.seeds in
    found-boxes (choice_of c.args.self.now.p c.args.self.now.exact) _ _ _ _ _ c.if-n-eq1.false _ c.saturating_sub-k.ensures _ _ _ _
    (turns-all seeds _ _ _ _ _ _ _ all c.loop-i.invariant.2)
