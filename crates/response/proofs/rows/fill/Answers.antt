-- `response::rows::fill` meets its contract: the five parts of the map. Assumes nothing.
use mathlib.Core.Path.{◌∙◌}
use native.Mathlib.Nat.{le_refl}
use native.Mathlib.Omega.{arith}
use lib.ListN.{length}
use Rattle.response.specs.declared.rows.Field.{Field}
use Rattle.response.specs.Internal.{Placed}
use Rattle.response.proofs.Edges.{cleared-long, rows_fit, part-inside, whole-map}
use Rattle.response.proofs.rows.fill.Goals as goal
use Rattle.response.proofs.rows.fill.Goals.{Start}

abbrev field : Start → Field
field c =
    record { w = c.args.w; h = c.args.h; radius = c.args.ring; x = c.args.x; y = c.args.y; pw = c.args.pw; ph = c.args.ph }

placed : (c : Start) → Placed (length c.args.img.now) (field c) (length c.args.map.now)
placed c =
    record {
      image = c.requires.sized.0;
      own_radius = c.requires.sized.1;
      across = c.requires.pw_bound.0;
      down = c.requires.pw_bound.1;
      enough = c.requires.pw_bound.2;
    }

pub inner-requires : goal.inner-requires
inner-requires c = (
  placed (goal.at.inner-requires c).Start,
  part-inside c.args.img.now (field (goal.at.inner-requires c).Start) c.args.margin _ _ _ _ c.requires.sized.1
      c.reach-columns.ensures c.reach-rows.ensures,
  c.reach-columns.ensures.ordered,
  c.reach-rows.ensures.ordered,
)

pub clear_part-requires : goal.clear_part-requires
clear_part-requires c =
    let fit = rows_fit _ _ _ _ (placed (goal.at.clear_part-requires c).Start) c.inner.ensures.long c.reach-rows.result.start
    (omega (arith, c.reach-rows.ensures.ordered, c.reach-rows.ensures.ends)) in
    (omega arith, le_refl _, omega arith, fit.0, fit.1)

pub clear_part-requires-2 : goal.clear_part-requires-2
clear_part-requires-2 c =
    let long = cleared-long c.clear_part.ensures ∙ c.inner.ensures.long in
    let fit = rows_fit _ _ _ _ (placed (goal.at.clear_part-requires-2 c).Start) long c.reach-rows.result.end c.reach-rows.ensures.ends in
    (omega arith, omega (arith, c.reach-columns.ensures.ordered, c.reach-columns.ensures.ends), c.reach-rows.ensures.ordered, fit.0, fit.1)

pub clear_part-requires-3 : goal.clear_part-requires-3
clear_part-requires-3 c =
    let first = cleared-long c.clear_part.ensures in
    let long = cleared-long c.clear_part-2.ensures ∙ first ∙ c.inner.ensures.long in
    let fit = rows_fit _ _ _ _ (placed (goal.at.clear_part-requires-3 c).Start) long c.reach-rows.result.end c.reach-rows.ensures.ends in
    (c.reach-columns.ensures.ends, le_refl _, c.reach-rows.ensures.ordered, fit.0, fit.1)

pub clear_part-requires-4 : goal.clear_part-requires-4
clear_part-requires-4 c =
    let first = cleared-long c.clear_part.ensures in
    let second = cleared-long c.clear_part-2.ensures in
    let long = cleared-long c.clear_part-3.ensures ∙ second ∙ first ∙ c.inner.ensures.long in
    let fit = rows_fit _ _ _ _ (placed (goal.at.clear_part-requires-4 c).Start) long c.args.ph (le_refl _) in
    (omega arith, le_refl _, c.reach-rows.ensures.ends, fit.0, fit.1)

pub returns : goal.returns
returns c =
    whole-map c.args.img.now (field (goal.at.returns c).Start) c.args.margin _ _ _ _ c.requires.sized.1 c.reach-columns.ensures
    c.reach-rows.ensures _ _ _ _ _ _
    c.inner.ensures c.clear_part.ensures c.clear_part-2.ensures c.clear_part-3.ensures c.clear_part-4.ensures c.requires.pw_bound.2
