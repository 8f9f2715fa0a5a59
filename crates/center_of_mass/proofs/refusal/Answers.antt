-- `center_of_mass::refusal` meets its contract, test by test. Assumes nothing.
use mathlib.Core.Path.{refl, sym, ap, ◌∙◌}
use mathlib.Core.Logic.{inl, inr}
use lib.ListN.{length}
use Rattle.std.specs.Prelude.{is_some, option_copied}
use Rattle.lists.proofs.Tests.{and_none}
use Rattle.lists.specs.Refusals.{verdict}
use Rattle.lists.proofs.Judged.{passed-on}
use Rattle.image_size.proofs.Judged.{sized}
use Rattle.center_of_mass.specs.CenterOfMass.{seed_fits}
use Rattle.center_of_mass.specs.Promise.{cells_of}
use Rattle.center_of_mass.proofs.Judgement.{MapFits, by_map, large, seed-far, none}
use Rattle.center_of_mass.proofs.refusal.Goals as goal
use Rattle.center_of_mass.proofs.refusal.Goals.{Joined-map, in-Some+in_ok-refusal, in_default}
use Rattle.center_of_mass.proofs.refusal.Goals.{Joined-else-seed_fits, else-seed_fits-via-then-seed_fits+else-seed_fits-2}
use Rattle.center_of_mass.proofs.refusal.Goals.{else-seed_fits-via-else-seed_fits}

pub returns-in_err-refusal : goal.returns-in_err-refusal
returns-in_err-refusal c = rw (passed-on _ c.from_residual.ensures.1, c.in-Some.is) (by_map _ _ _ _ _ _ _ c.in_err-refusal.ensures)

-- past the test of the map
map-passed : (c : Joined-map)
    → MapFits c.args.radius c.args.x c.args.y (length (cells_of (option_copied c.args.map))) c.args.w c.args.h (is_some c.args.map)
map-passed c =
    elim c.match-map.branch [
      | in-Some+in_ok-refusal w ↦ rw w.in-Some.is (inl (refl, sized _ _ _ _ w.in_ok-refusal.ensures))
      | in_default w ↦ rw w.in_default.is (inr refl)
    ]

pub returns-then-radius-gt-LARGEST_RADIUS : goal.returns-then-radius-gt-LARGEST_RADIUS
returns-then-radius-gt-LARGEST_RADIUS c =
    large _ _ _ _ _ _ _ (map-passed (goal.at.returns-then-radius-gt-LARGEST_RADIUS c).Joined-map) c.if-radius-gt-LARGEST_RADIUS.true

pub returns-then-seed_fits-2 : goal.returns-then-seed_fits-2
returns-then-seed_fits-2 c =
    ap verdict
    (none _ _ _ _ _ _ _ (map-passed (goal.at.returns-then-seed_fits-2 c).Joined-map) c.if-radius-gt-LARGEST_RADIUS.false
    c.if-seed_fits.ensures c.if-seed_fits-2.ensures)

pub returns : goal.returns
returns c =
    seed-far _ _ _ _ _ _ _ (map-passed (goal.at.returns c).Joined-map) c.if-radius-gt-LARGEST_RADIUS.false
    (elim c.else-seed_fits.branch [
      | else-seed_fits-via-then-seed_fits+else-seed_fits-2 w ↦
          rw (sym w.seed_fits-then-seed_fits.ensures ∙ w.if-seed_fits-2.false) (and_none (seed_fits c.args.x))
      | else-seed_fits-via-else-seed_fits w ↦ rw (sym c.seed_fits.ensures ∙ w.if-seed_fits.false)
    ])
