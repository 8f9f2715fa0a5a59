-- `corner_strike::strike_corner` meets its contract: a refusal is passed on, or the corner at the place removed. Assumes nothing.
use native.Mathlib.Omega.{arith}
use Rattle.lists.proofs.Judged.{passed-on}
use Rattle.corner_list.specs.CornerList.{places_of}
use Rattle.corner_list.specs.Buffer.{contents}
use Rattle.corner_strike.specs.Editions.{edition}
use Rattle.corner_strike.proofs.Judging.{Strikable, strike-granted, strike-refused, strike-struck}
use Rattle.corner_strike.proofs.striking.strike_corner.Goals as goal
use Rattle.corner_strike.proofs.striking.strike_corner.Goals.{In_ok-refusal}

pub returns-in_err-refusal-clause-struck : goal.returns-in_err-refusal-clause-struck
returns-in_err-refusal-clause-struck c =
    rw (passed-on _ c.from_residual.ensures.1) (strike-refused _ _ _ _ c.places.ensures _ _ c.in_err-refusal.ensures)

-- nothing refuses
granted : (c : In_ok-refusal)
    → Strikable (places_of (contents c.args.b.now)) (edition c.args.count.now c.args.change.now) c.args.place c.args.shown
granted c = strike-granted _ _ _ _ c.places.ensures _ c.in_ok-refusal.ensures

pub remove_corner-requires : goal.remove_corner-requires
remove_corner-requires c = let g = granted (goal.at.remove_corner-requires c).In_ok-refusal in (g.inside, g.fits)

pub overflow_sub-left : goal.overflow_sub-left
overflow_sub-left c = omega (arith, (granted (goal.at.overflow_sub-left c).In_ok-refusal).inside)

pub overflow_add-raised : goal.overflow_add-raised
overflow_add-raised c = omega (arith, (granted (goal.at.overflow_add-raised c).In_ok-refusal).not-largest)

pub returns-clause-struck : goal.returns-clause-struck
returns-clause-struck c =
    strike-struck _ _ _ _ c.places.ensures _ _ c.in_ok-refusal.ensures c.remove_corner.ensures.removed
