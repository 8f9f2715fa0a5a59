-- `frame::checked::CheckedFrame::add_patch_corners` meets its contract, by the laws of `Patches`. Assumes nothing.
use native.Mathlib.Omega.{arith}
use mathlib.Core.Path.{refl}
use Rattle.frame.proofs.Patches.{never-short, map-small, map-within, map-length, box-adds}
use Rattle.frame.proofs.checked.CheckedFrame.add_patch_corners.Goals as goal

pub returns-in_default-clause-added : goal.returns-in_default-clause-added
returns-in_default-clause-added c =
    absurd (never-short _ _ _ _ _ _ _ _ _
    (record { sound = c.args.self.now.sound; enough = c.requires }) _ _ _ c.in_default.ensures _ refl)

pub overflow_mul-cells : goal.overflow_mul-cells
overflow_mul-cells c =
    omega (
      arith,
      map-small _ _ _ _ _ _ _ _ _ (record { sound = c.args.self.now.sound; enough = c.requires }) _ _ _ c.in-Ok.ensures _ _
          refl,
    )

pub slice_bounds-add_map_corners-end : goal.slice_bounds-add_map_corners-end
slice_bounds-add_map_corners-end c =
    map-within _ _ _ _ _ _ _ _ _ (record { sound = c.args.self.now.sound; enough = c.requires }) _ _ _ c.in-Ok.ensures _ _
    refl

pub slice_bounds-add_map_corners-end-2 : goal.slice_bounds-add_map_corners-end-2
slice_bounds-add_map_corners-end-2 c =
    map-length _ _ _ _ _ _ _ _ _ (record { sound = c.args.self.now.sound; enough = c.requires }) _ _ _ c.in-Ok.ensures _ _
    refl

pub returns-clause-added : goal.returns-clause-added
returns-clause-added c =
    box-adds _ _ _ _ _ _ _ _ _ (record { sound = c.args.self.now.sound; enough = c.requires }) _ _ _ c.in-Ok.ensures _ _
    refl c.margin.ensures c.args.self.now.exact _ _ _ _
    c.add_map_corners.ensures.added
