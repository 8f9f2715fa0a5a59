-- `response::inner_patch` meets its contract: the sides are those of the clipped box, and the rows fill it. Assumes nothing.
use mathlib.Core.Path.{◌≡◌, ap₂, ◌∙◌}
use Prim.Native.Nat.{ℕ}
use mathlib.Core.List.{List}
use Rattle.lists.proofs.Judged.{judged-ok, passed-on}
use Rattle.ring.specs.Ring.{ring_of}
use Rattle.response.specs.Patch.{View, besides, map_width, map_height}
use Rattle.response.proofs.Outcome.{taken, image, cols-in, rows_in, cols-le, rows-le, when-refused, when-filled}
use Rattle.response.proofs.inner_patch.Goals as goal
use Rattle.response.proofs.inner_patch.Goals.{After-beside-ph, In_ok-refusal}

-- ---- where the sides are known

abbrev view : (img : List ℕ) (w h ring x0 y0 x1 y1 : ℕ) → View
view img w h ring x0 y0 x1 y1 = record { img = img; w = w; h = h; ring = ring_of ring; x0 = x0; y0 = y0; x1 = x1; y1 = y1 }

width : (c : After-beside-ph) → c.beside-pw.result
    ≡ map_width (view c.args.img.now c.args.w c.args.h c.args.ring c.args.x0 c.args.y0 c.args.x1 c.args.y1)
width c = c.beside-pw.ensures ∙ ap₂ besides c.side-across.ensures c.side-down.ensures

height : (c : After-beside-ph) → c.beside-ph.result
    ≡ map_height (view c.args.img.now c.args.w c.args.h c.args.ring c.args.x0 c.args.y0 c.args.x1 c.args.y1)
height c = c.beside-ph.ensures ∙ ap₂ besides c.side-down.ensures c.side-across.ensures

pub refusal-requires : goal.refusal-requires
refusal-requires c = (
  rw (width c) (cols-le (view c.args.img.now c.args.w c.args.h c.args.ring c.args.x0 c.args.y0 c.args.x1 c.args.y1)),
  rw (height c) (rows-le (view c.args.img.now c.args.w c.args.h c.args.ring c.args.x0 c.args.y0 c.args.x1 c.args.y1)),
)

pub returns-in_err-refusal : goal.returns-in_err-refusal
returns-in_err-refusal c =
    let sides = (goal.at.returns-in_err-refusal c).After-beside-ph in
    rw (passed-on _ c.from_residual.ensures.1) (when-refused _ _ _ _ _ (width sides) (height sides) _ _ c.in_err-refusal.ensures)

-- ---- nothing refuses
pub fill-requires : goal.fill-requires
fill-requires c =
    let t = taken _ _ _ _ _ _ (judged-ok _ _ _ c.in_ok-refusal.ensures).0 in record {
      sized = image _ _ _ _ _ _ t;
      pw_bound = ((
        rw (c.min.ensures, width (goal.at.fill-requires c).After-beside-ph)
            (cols-in (view c.args.img.now c.args.w c.args.h c.args.ring c.args.x0 c.args.y0 c.args.x1 c.args.y1)),
        rw (c.min-2.ensures, height (goal.at.fill-requires c).After-beside-ph)
            (rows_in (view c.args.img.now c.args.w c.args.h c.args.ring c.args.x0 c.args.y0 c.args.x1 c.args.y1)),
        t.enough,
      ));
    }

pub returns : goal.returns
returns c =
    let sides = (goal.at.returns c).After-beside-ph in
    when-filled _ _ _ _ _ (width sides) (height sides) _ c.in_ok-refusal.ensures _ _ _ _ c.min.ensures c.min-2.ensures c.fill.ensures
