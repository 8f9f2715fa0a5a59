-- `sure_peak::sure_peak` meets its contract: refused, or answered by the border and the tests of the place. Assumes nothing.
use mathlib.Core.Path.{◌≡◌, sym, ◌∙◌}
use mathlib.Core.Bool.{true, ◌&&◌}
use Prim.Native.Nat.{ℕ, ◌+◌, ◌≤◌}
use native.Mathlib.Omega.{arith}
use lib.Dec.{leb, ltb}
use lib.ListN.{length}
use Rattle.lists.specs.Limits.{largest_border}
use Rattle.lists.specs.Places.{Place}
use Rattle.lists.proofs.Judged.{judged-ok, passed-on}
use Rattle.detect.specs.Internal.{Inside}
use Rattle.sure_peak.proofs.Judging.{Given, given, inside, narrower, when-refused, outside-across, outside-down, inside-border}
use Rattle.sure_peak.proofs.sure_peak.Goals as goal
use Rattle.sure_peak.proofs.sure_peak.Goals.{Else-not-is_inside-2, In_ok-refusal, then-not-is_inside-via-then-not-is_inside}
use Rattle.sure_peak.proofs.sure_peak.Goals.{then-not-is_inside-via-else-not-is_inside+then-not-is_inside-2}

pub returns-in_err-refusal : goal.returns-in_err-refusal
returns-in_err-refusal c = rw (passed-on _ c.from_residual.ensures.1) (when-refused _ _ _ _ _ _ _ _ _ _ _ c.in_err-refusal.ensures)

-- ---- nothing refuses
module _ (c : In_ok-refusal) where
  abbrev place : Place
  place = record { x = c.args.x; y = c.args.y }

  abbrev border : ℕ
  border = c.args.ring + c.args.window + c.args.centroid

  granted :
      Given (length c.args.lows.now) (length c.args.highs.now) c.args.w c.args.h c.args.ring c.args.window c.args.centroid place
  granted = given _ _ _ _ _ _ _ _ (judged-ok _ _ _ c.in_ok-refusal.ensures).0

  narrow : border ≤ largest_border
  narrow = let g = granted in omega (arith, g.ring-small, g.window-small, g.centroid-small)

pub is_inside-requires : goal.is_inside-requires
is_inside-requires c = let g = granted c in (narrow c, omega (arith, g.column, g.low-cells.narrow))

pub is_inside-requires-else-not-is_inside : goal.is_inside-requires-else-not-is_inside
is_inside-requires-else-not-is_inside c = let g = granted (goal.at.is_inside-requires-else-not-is_inside c).In_ok-refusal in
    (narrow (goal.at.is_inside-requires-else-not-is_inside c).In_ok-refusal, omega (arith, g.row, g.low-cells.low))

pub returns-then-not-is_inside : goal.returns-then-not-is_inside
returns-then-not-is_inside c =
    elim c.then-not-is_inside.branch [
      | then-not-is_inside-via-then-not-is_inside w ↦
          outside-across _ _ _ _ _ _ _ _ _ _ _ c.in_ok-refusal.ensures
          (sym c.is_inside.ensures ∙ w.if-not-is_inside.true)
      | then-not-is_inside-via-else-not-is_inside+then-not-is_inside-2 w ↦
          outside-down _ _ _ _ _ _ _ _ _ _ _ c.in_ok-refusal.ensures
          (sym w.is_inside-else-not-is_inside.ensures ∙ w.if-not-is_inside-2.true)
    ]

-- ---- inside the border
module _ (c : Else-not-is_inside-2) where
  across : (leb (border (goal.at.Else-not-is_inside-2 c).In_ok-refusal) c.args.x && ltb
      (c.args.x + border (goal.at.Else-not-is_inside-2 c).In_ok-refusal) c.args.w) ≡ true
  across = sym c.is_inside.ensures ∙ c.if-not-is_inside.false

  down : (leb (border (goal.at.Else-not-is_inside-2 c).In_ok-refusal) c.args.y && ltb
      (c.args.y + border (goal.at.Else-not-is_inside-2 c).In_ok-refusal) c.args.h) ≡ true
  down = sym c.is_inside-else-not-is_inside.ensures ∙ c.if-not-is_inside-2.false

  within : Inside c.args.w c.args.h c.args.window (place (goal.at.Else-not-is_inside-2 c).In_ok-refusal)
  within =
      narrower _ _ (border (goal.at.Else-not-is_inside-2 c).In_ok-refusal) _
      (place (goal.at.Else-not-is_inside-2 c).In_ok-refusal) (omega arith)
      (inside _ _ _ (place (goal.at.Else-not-is_inside-2 c).In_ok-refusal) across down)

pub is_sure-requires : goal.is_sure-requires
is_sure-requires c =
    let g = granted (goal.at.is_sure-requires c).In_ok-refusal in (
      record { cells = g.low-cells; radius = g.window-small; inside = within c },
      record { cells = g.high-cells; radius = g.window-small; inside = within c },
    )

pub returns : goal.returns
returns c =
    inside-border _ _ _ _ _ _ _ _ _ _ _ c.in_ok-refusal.ensures
    (across (goal.at.returns c).Else-not-is_inside-2) (down (goal.at.returns c).Else-not-is_inside-2) _ c.is_sure.ensures
