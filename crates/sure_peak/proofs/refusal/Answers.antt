-- `sure_peak::refusal` meets its contract: each return is the first condition of the table that holds. Assumes nothing.
use mathlib.Core.Path.{◌≡◌, sym, ap, ◌∙◌}
use mathlib.Core.Bool.{cond}
use borrow.Author.Tests.{le-leb, lt-leb}
use Rattle.lists.specs.Internal.{Sized}
use Rattle.lists.specs.Refusals.{verdict}
use Rattle.lists.proofs.Judged.{passed-on}
use Rattle.image_size.proofs.Judged.{refused, sized}
use Rattle.retouch.specs.Promise.{place_outside}
use Rattle.sure_peak.specs.Promise.{refusal_of}
use Rattle.sure_peak.proofs.Judging.{by_length, by-parameters, by_place}
use Rattle.sure_peak.proofs.refusal.Goals as goal
use Rattle.sure_peak.proofs.refusal.Goals.{Else-is_outside, In_ok-refusal}
use Rattle.sure_peak.proofs.refusal.Goals.{then-w-x-via-then-w-x, then-w-x-via-else-w-x+then-h-y}

pub returns-in_err-refusal : goal.returns-in_err-refusal
unfolding refusal_of
returns-in_err-refusal c = passed-on _ c.from_residual.ensures.1 ∙ refused _ _ _ _ _ _ c.in_err-refusal.ensures

-- past the test of the low map
image : (c : In_ok-refusal) → Sized c.args.lows c.args.w c.args.h
image c = sized _ _ _ _ c.in_ok-refusal.ensures

pub returns-then-highs-lows : goal.returns-then-highs-lows
returns-then-highs-lows c =
    rw (by_length _ _ _ _ _ _ _ _ (image (goal.at.returns-then-highs-lows c).In_ok-refusal) c.if-highs-lows.true)

pub returns-then-is_outside : goal.returns-then-is_outside
returns-then-is_outside c =
    ap verdict
    (sym
    (by-parameters _ _ _ _ _ _ _ _ (image (goal.at.returns-then-is_outside c).In_ok-refusal) c.if-highs-lows.false
    (sym c.is_outside.ensures ∙ c.if-is_outside.true)))

-- past the parameters
place : (c : Else-is_outside)
    → refusal_of c.args.lows c.args.highs c.args.w c.args.h c.args.ring c.args.window c.args.centroid
    (record { x = c.args.x; y = c.args.y })
    ≡ cond (place_outside c.args.w c.args.h (record { x = c.args.x; y = c.args.y })) 14 0
place c =
    by_place _ _ _ _ _ _ _ _ (image (goal.at.Else-is_outside c).In_ok-refusal) c.if-highs-lows.false
    (sym c.is_outside.ensures ∙ c.if-is_outside.false)

pub returns-then-w-x : goal.returns-then-w-x
returns-then-w-x c =
    elim c.then-w-x.branch [
      | then-w-x-via-then-w-x w ↦ rw (place (goal.at.returns-then-w-x c).Else-is_outside, le-leb _ _ w.if-w-x.true)
      | then-w-x-via-else-w-x+then-h-y w ↦
          rw (place (goal.at.returns-then-w-x c).Else-is_outside, lt-leb _ _ w.if-w-x.false, le-leb _ _ w.if-h-y.true)
    ]

pub returns : goal.returns
returns c = rw (place (goal.at.returns c).Else-is_outside, lt-leb _ _ c.if-w-x.false, lt-leb _ _ c.if-h-y.false)
