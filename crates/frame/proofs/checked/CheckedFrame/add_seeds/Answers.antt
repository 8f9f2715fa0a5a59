-- `frame::checked::CheckedFrame::add_seeds` meets its contract, by the laws of `Levels`. Assumes nothing.
use Prim.Native.Nat.{◌-◌}
use native.Mathlib.Omega.{arith}
use mathlib.Core.Path.{refl}
use lib.ListN.{length}
use Rattle.pyramid_levels.specs.Levels.{level_side}
use Rattle.patch_corners.specs.OneMap.{choice_of}
use Rattle.frame.specs.Internal.{FrameChecked}
use Rattle.frame.proofs.Levels.{no-seeds, levels-most, last-ready, last-seeds}
use Rattle.frame.proofs.checked.CheckedFrame.add_seeds.Goals as goal
use Rattle.frame.proofs.checked.CheckedFrame.add_seeds.Goals.{After-level}

pub returns-then-n-lt2-clause-added : goal.returns-then-n-lt2-clause-added
returns-then-n-lt2-clause-added c = no-seeds _ _ _ _ (choice_of c.args.self.now.p c.args.self.now.exact) _ c.if-n-lt2.true _

pub overflow_shr-last : goal.overflow_shr-last
overflow_shr-last c = omega (arith, levels-most _ _ _ _ _ _ c.requires.built_levels)

pub overflow_shr-last-2 : goal.overflow_shr-last-2
overflow_shr-last-2 c = omega (arith, levels-most _ _ _ _ _ _ c.requires.built_levels)

-- the last level is searched like the image
last : (c : After-level)
    → FrameChecked c.args.self.now.p c.level.result.now (level_side c.args.self.now.w (c.args.n - 1))
    (level_side c.args.self.now.h (c.args.n - 1))
    (length c.args.map.now)
last c =
    last-ready _ _ _ _ _ _ c.requires.built_levels (omega arith) _ refl _
    (record { sound = c.args.self.now.sound; enough = c.requires.enough }) _ c.level.ensures _ _ refl refl

pub invariant_of-last : goal.invariant_of-last
invariant_of-last c = record { sound = (last (goal.at.invariant_of-last c).After-level).sound }

pub add_image_corners-requires : goal.add_image_corners-requires
add_image_corners-requires c = (last (goal.at.add_image_corners-requires c).After-level).enough

pub returns-clause-added : goal.returns-clause-added
returns-clause-added c =
    last-seeds _ _ _ _ _ _ c.requires.built_levels (omega arith) _ refl _
    (record { sound = c.args.self.now.sound; enough = c.requires.enough }) _ c.level.ensures _ _ refl refl
    (choice_of c.args.self.now.p c.args.self.now.exact) _ _ _ c.add_image_corners.ensures.added
