-- `CenterOfMassRefiner::refine` meets its contract: refused, weighed, or without a map. Assumes nothing.
use mathlib.Core.Path.{◌≡◌, refl}
use mathlib.Core.Bool.{true}
use lib.ListN.{length}
use Rattle.std.specs.Prelude.{is_some, option_copied}
use Rattle.lists.proofs.Judged.{judged-ok}
use Rattle.center_of_mass.specs.CenterOfMass.{refusal_of}
use Rattle.center_of_mass.specs.Promise.{cells_of}
use Rattle.center_of_mass.proofs.Judgement.{radius-small, map-fits}
use Rattle.center_of_mass.proofs.Promised.{refused, weighed-map, no-map}
use Rattle.center_of_mass.proofs.CenterOfMassRefiner.refine.Goals as goal
use Rattle.center_of_mass.proofs.CenterOfMassRefiner.refine.Goals.{In_default, In-Some}

pub returns-in-Err : goal.returns-in-Err
returns-in-Err c = refused _ _ _ _ _ _ _ c.in-Err.reason c.in-Err.ensures

-- past the refusals
passed : (c : In_default)
    → refusal_of c.args.self.radius c.args.x c.args.y (is_some c.args.map)
    (length (cells_of (option_copied c.args.map))) c.args.w c.args.h ≡ 0
passed c = (judged-ok _ _ _ c.in_default.ensures).0

pub returns-in_default-map : goal.returns-in_default-map
returns-in_default-map c = no-map _ _ _ _ _ _ _ (passed (goal.at.returns-in_default-map c).In_default) (rw c.in_default-map.is refl)

-- with a map
passed-with : (c : In-Some)
    → refusal_of c.args.self.radius c.args.x c.args.y true (length c.in-Some.cells.now) c.args.w c.args.h ≡ 0
passed-with c = rw c.in-Some.is at (passed (goal.at.In-Some c).In_default)

pub centre_of_mass-requires : goal.centre_of_mass-requires
centre_of_mass-requires c =
    let e = passed-with (goal.at.centre_of_mass-requires c).In-Some in
    let m = map-fits _ _ _ _ _ _ _ e refl in
    (radius-small _ _ _ _ _ _ _ e, m.narrow, m.low, m.sized)

pub returns : goal.returns
returns c = rw c.in-Some.is (weighed-map _ _ _ _ _ _ _ (passed-with (goal.at.returns c).In-Some) _ refl c.centre_of_mass.ensures)
