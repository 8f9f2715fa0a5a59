-- `retouch::retouch` meets its contract: refused, or the pixel stored and what it touches redone. Assumes nothing.
use mathlib.Core.Path.{refl}
use Prim.Native.Nat.{◌+◌, ◌*◌, ◌<◌}
use native.Mathlib.Omega.{arith}
use lib.ListN.{length}
use Rattle.lists.specs.Limits.{largest_map}
use Rattle.lists.specs.Places.{Place}
use Rattle.lists.proofs.Places.{in_map}
use Rattle.lists.proofs.Judged.{judged-ok, passed-on}
use Rattle.response.proofs.Indices.{area-le}
use Rattle.retouch.specs.Internal.{PixelChecked}
use Rattle.retouch.proofs.Judging.{ready, ready-changed, when-refused, when-redone}
use Rattle.retouch.proofs.retouch.Goals as goal
use Rattle.retouch.proofs.retouch.Goals.{In_ok-refusal}

-- ---- nothing refuses

abbrev pixel : In_ok-refusal → Place
pixel c = record { x = c.args.x; y = c.args.y }

granted : (c : In_ok-refusal)
    → PixelChecked c.args.img.now c.args.w c.args.h c.args.ring (pixel c)
    c.args.map.now
granted c = ready _ _ _ _ _ _ (judged-ok _ _ _ c.in_ok-refusal.ensures).0

stored : (c : In_ok-refusal) → c.args.y * c.args.w + c.args.x < length c.args.img.now
stored c = let g = granted c in rw g.image.sized (in_map _ _ _ _ g.column g.row)

near : (c : In_ok-refusal) → c.args.y * c.args.w + c.args.x < largest_map
near c = let g = granted c in omega (arith, stored c, g.image.sized, area-le _ _ g.image.narrow g.image.low)

pub returns-in_err-refusal : goal.returns-in_err-refusal
returns-in_err-refusal c = rw (passed-on _ c.from_residual.ensures.1) (when-refused _ _ _ _ _ _ _ _ c.in_err-refusal.ensures)

pub overflow_mul-img : goal.overflow_mul-img
overflow_mul-img c = omega (arith, near (goal.at.overflow_mul-img c).In_ok-refusal)

pub overflow_add-img : goal.overflow_add-img
overflow_add-img c = omega (arith, near (goal.at.overflow_add-img c).In_ok-refusal)

pub bounds-img-y : goal.bounds-img-y
bounds-img-y c = stored (goal.at.bounds-img-y c).In_ok-refusal

pub redo_touched-cells-requires : goal.redo_touched-cells-requires
redo_touched-cells-requires c = ready-changed _ _ _ _ _ _ _ (granted (goal.at.redo_touched-cells-requires c).In_ok-refusal)

pub returns : goal.returns
returns c =
    when-redone _ _ _ _ _ _ _ _ c.in_ok-refusal.ensures _ _ _ refl c.redo_touched-cells.ensures.value
    c.redo_touched-cells.ensures.map_after
